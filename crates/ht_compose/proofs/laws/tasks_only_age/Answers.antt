use Rattle.ht_compose.proofs.AgingRows.{freed_ages}
use Rattle.ht_compose.proofs.AgingTables.{all_age, all_age_freed, all_age_further, all_age_itself}
use Rattle.ht_compose.proofs.laws.tasks_only_age.Goals as goal

pub returns-clause-agenda : goal.returns-clause-agenda
returns-clause-agenda c = all_age

pub returns-clause-freeing : goal.returns-clause-freeing
returns-clause-freeing c = all_age_freed

pub returns-clause-row : goal.returns-clause-row
returns-clause-row c = freed_ages

pub returns-clause-unchanged : goal.returns-clause-unchanged
returns-clause-unchanged c = all_age_itself

pub returns-clause-onward : goal.returns-clause-onward
returns-clause-onward c = all_age_further

use Rattle.ht_compose.proofs.Moments.{ends_at_moment, frees_at_moment}
use Rattle.ht_compose.proofs.laws.the_last_moment_is_not_looked_at.Goals as goal

pub returns-clause-agenda : goal.returns-clause-agenda
returns-clause-agenda c = ends_at_moment

pub returns-clause-freeing : goal.returns-clause-freeing
returns-clause-freeing c = frees_at_moment

use Rattle.ht_compose.proofs.RowsAlone.{ends_rows, frees_rows}
use Rattle.ht_compose.proofs.laws.only_rows_change.Goals as goal

pub returns-clause-agenda : goal.returns-clause-agenda
returns-clause-agenda c = λ at u v items ends. ends_rows at u v items ends

pub returns-clause-freeing : goal.returns-clause-freeing
returns-clause-freeing c = frees_rows

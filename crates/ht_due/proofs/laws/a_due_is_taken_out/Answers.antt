use Rattle.ht_due.proofs.Ascending.{ascends_without, has_without}
use Rattle.ht_due.proofs.laws.a_due_is_taken_out.Goals as goal

pub returns : goal.returns
returns c = record { ascend = ascends_without; has = has_without }

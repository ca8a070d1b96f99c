use Rattle.ht_due.proofs.Ascending.{ascends_put, has_put}
use Rattle.ht_due.proofs.laws.a_due_is_put_in.Goals as goal

pub returns : goal.returns
returns c = record { ascend = ascends_put; has = has_put }

use Rattle.ht_machine.proofs.Timing.{same_ends}
use Rattle.ht_machine.proofs.laws.a_last_turn_leaves_the_same.Goals as goal

pub returns : goal.returns
returns c = λ t few more a b adds at late k l r s u v here there. same_ends t few more a b adds at k l r s u v late here there

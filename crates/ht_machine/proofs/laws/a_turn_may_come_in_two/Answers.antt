use Rattle.ht_machine.proofs.TurnsApart.{turn_then}
use Rattle.ht_machine.proofs.laws.a_turn_may_come_in_two.Goals as goal

pub returns : goal.returns
returns c = λ t u v m n ds es up a b. turn_then m n t u v ds es up a b

use Rattle.ht_machine.proofs.Refusing.{in_order}
use Rattle.ht_machine.proofs.laws.a_refusal_is_the_first_that_holds.Goals as goal

pub returns : goal.returns
returns c = in_order

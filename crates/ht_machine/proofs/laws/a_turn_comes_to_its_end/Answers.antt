use Rattle.ht_machine.proofs.TurnsEnd.{turn_is}
use Rattle.ht_machine.proofs.laws.a_turn_comes_to_its_end.Goals as goal

pub returns : goal.returns
returns c = λ t by sized sound. turn_is by t sized sound

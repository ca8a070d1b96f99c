use Rattle.ht_compose.proofs.AlwaysEnding.{always_ends}
use Rattle.ht_compose.proofs.laws.the_end_is_always_reached.Goals as goal

pub returns : goal.returns
returns c = always_ends

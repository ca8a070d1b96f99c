use Rattle.ht_load.proofs.OneLoad.{one_load}
use Rattle.ht_load.proofs.laws.a_load_has_one_line.Goals as goal

pub returns : goal.returns
returns c = one_load

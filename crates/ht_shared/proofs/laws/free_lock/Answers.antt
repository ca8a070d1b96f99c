use Rattle.ht_shared.proofs.RuleLaws.{lies}
use Rattle.ht_shared.proofs.laws.free_lock.Goals as goal

pub returns : goal.returns
returns g c = lies g.T.Stepper.relates g.T.Stepper.stands

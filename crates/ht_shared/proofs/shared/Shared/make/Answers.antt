use Rattle.ht_shared.proofs.KeptAtOpening.{opens}
use Rattle.ht_shared.proofs.shared.Shared.make.Goals as goal

pub vacant-requires : goal.vacant-requires
vacant-requires g c = opens g.T.Stepper.relates g.T.Stepper.stands c.args.value

use Rattle.ht_shared.proofs.RuleLaws.{last}
use Rattle.ht_shared.proofs.laws.last_ticket.Goals as goal

pub returns : goal.returns
returns g c = last g.T.Stepper.relates g.T.Stepper.stands

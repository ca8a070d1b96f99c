use Rattle.ht_api.proofs.Validity.{valid}
use Rattle.ht_api.proofs.events.event_of.Goals as goal

pub returns-clause-valid : goal.returns-clause-valid
returns-clause-valid c = valid c.args.request.now c.args.at c.place_of.result c.event_at.result c.event_at.ensures c.requires c.place_of.ensures

use Rattle.ht_desk.specs.Replaying.{TextsOf}
use Rattle.ht_desk.proofs.Opened.{reason_of}
use Rattle.ht_desk.proofs.desk.DeskOver+D+DeskState.open.Goals as goal

pub returns-in-Err-clause-refused : goal.returns-in-Err-clause-refused
returns-in-Err-clause-refused g c =
    let texts : TextsOf = record { models = c.args.models.now; people = c.args.people.now } in
    reason_of texts (g.D.Disk.gives c.args.first.now) _ _ c.in-Err.fault c.in-Err.ensures.opens.refused

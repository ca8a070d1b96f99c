use Rattle.std.proofs.Common.{length}
use Rattle.ht_escalate.proofs.notifying.notice_of.Goals as goal
use Rattle.ht_tree.proofs.PublicLaws.{sound_row_fits}

pub resolve_seen-requires-clause-row : goal.resolve_seen-requires-clause-row
resolve_seen-requires-clause-row c =
    let t = c.args.seen.now.tables.now.tables in
    let row = c.args.seen.now.row.now in
    sound_row_fits t.models (length t.people.persons) row (c.requires.seen.plan.sound.rows_sound row.task.0 row c.requires.seen.there)

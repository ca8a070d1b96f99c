use Rattle.std.proofs.Common.{◌≡◌, List, ap, ◌∙◌, subst}
use Rattle.ht_tree.specs.declared.row.Row.{Row}
use Rattle.ht_tree.specs.Rows.{row_at}
use Rattle.ht_tree.specs.Soundness.{IsSound}
use Rattle.ht_tree.specs.Tables.{RoomyTables}
use Rattle.ht_tree.proofs.Sounding.{found_sound}
use Rattle.ht_tree.proofs.tables.Tables.row.Goals as goal

pub returns-clause-sound : goal.returns-clause-sound
returns-clause-sound c =
    let t = c.args.self.now.tables in
    let P : RoomyTables → Type 0 = λ r. IsSound r.tables in
    let rows : c.deref.result.now ≡ t.rows = c.deref.ensures.value ∙ ap (λ (r : RoomyTables). (r.tables).rows) c.self.view_is in
    found_sound t c.args.id.0 c.row_in.result (subst P c.self.view_is c.self.invariant.sound) (c.row_in.ensures ∙ ap (λ (l : List Row). row_at c.args.id.0 l) rows)

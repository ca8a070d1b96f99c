-- Tasks that are still there, each where it stood.
use Rattle.std.proofs.Common.{◌≡◌, ◌+◌, ◌==◌, Bool, false, List, length, Some, if◌then◌else◌, refl, sym, ap, ◌∙◌, arith}
use Rattle.std.proofs.lemmas.Bool.Decides.{nat_tests}
use Rattle.ht_compose.specs.Families.{StillThere}
use Rattle.ht_tree.proofs.PublicLaws.{Alike, row_at-put_in, there_alike, within}
use Rattle.ht_tree.specs.declared.row.Row.{Row}
use Rattle.ht_tree.specs.Rows.{row_at}
use Rattle.ht_tree.specs.Tables.{TablesOf, with_row, with_rows}

pub there_before : (u : TablesOf) → StillThere u u
there_before u task row at = (row, at, refl, refl)

pub there_then : (u v w : TablesOf) → StillThere u v → StillThere v w → StillThere u w
there_then u v w a b task row at =
    let x = a task row at in
    let y = b task x.0 x.1 in
    (y.0, y.1, y.2 ∙ x.2, y.3 ∙ x.3)

pub there_as_alike : (u : TablesOf) (rows : List Row) → Alike u.rows rows → StillThere u (with_rows u rows)
there_as_alike u rows alike task row at =
    let x = there_alike rows u.rows (sym alike) task row at in
    (x.0, x.1, ap (λ b. b.1.0) x.2, ap (λ b. b.1.1) x.2)

pub there_behind : (u : TablesOf) (row : Row) → row.task.0 ≡ length u.rows + 1 → StillThere u (with_row u row)
there_behind u row number task r at =
    let w = within u.rows r task at in
    let high = w.1 in
    let other : (row.task.0 == task) ≡ false = grind (arith, nat_tests) in
    (r, row_at-put_in u.rows row task (omega arith, omega arith) ∙ ap (λ (b : Bool). if b then Some row else row_at task u.rows) other ∙ at, refl, refl)

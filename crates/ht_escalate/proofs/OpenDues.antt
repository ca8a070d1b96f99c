-- A deadline that is due may be taken.
use Rattle.std.proofs.Common.{◌≡◌, ◌≤◌, ◌∙◌, ℕ, true, [], Option, Some, ap, arith, subst, sym}
use Rattle.std.specs.Prelude.{nat_le, slice_get}
use Rattle.std.specs.Option.{option_map_or}
use Rattle.std.proofs.lemmas.Bool.{and_parts, leb-true}
use Rattle.ht_due.proofs.PublicLaws.{IsLeast, first_is_least}
use Rattle.ht_due.specs.declared.due.Due.{Due}
use Rattle.ht_due.specs.Dues.{has}
use Rattle.ht_escalate.specs.Escalating.{IsOpen}
use Rattle.ht_models.specs.Model.{ModelOf}
use Rattle.ht_tree.specs.declared.row.Row.{Row}
use Rattle.ht_tree.specs.RowDues.{all_dues, due_by, first_due}
use Rattle.ht_tree.specs.Rows.{row_at}
use Rattle.ht_tree.specs.Soundness.{IsSound}
use Rattle.ht_tree.specs.Tables.{TablesOf}
use Rattle.ht_tree.proofs.PublicLaws.{IsOfRow, all_dues_ascend, means_due, row_of_due, some_at}
use Rattle.ht_escalate.proofs.Firsts.{ascends_filter, has_filter}

-- what is due first is due, and by then
pub due_of_first : (u : TablesOf) (by : ℕ) (due : Due) → first_due u by ≡ Some due → (has due (all_dues u) ≡ true) × (due.at.0 ≤ by)
due_of_first u by due is =
    let least = subst (IsLeast (due_by u by)) is (first_is_least (due_by u by) (ascends_filter (λ (d : Due). nat_le d.at.0 by) (all_dues u) (all_dues_ascend u))) in
    let both = and_parts (has due (all_dues u)) (nat_le due.at.0 by) (sym (has_filter (λ (d : Due). nat_le d.at.0 by) due (all_dues u)) ∙ least.0) in
    (both.0, leb-true due.at.0 by both.1)

pub open_of_due : (u : TablesOf) (due : Due) → IsSound u → has due (all_dues u) ≡ true → 2 ≤ due.kind → IsOpen u due.task.0 due.place
open_of_due u due sound there kind =
    let its = row_of_due u due sound.numbered there in
    of_row its.row its.there (means_due u.models its.row due its.due)
  where
    of_row : (row : Row) → row_at due.task.0 u.rows ≡ Some row → IsOfRow u.models row due → IsOpen u due.task.0 due.place
    of_row row at (IsOfRow.waits k p w) = absurd (omega arith)
    of_row row at (IsOfRow.until k p w) = absurd (omega arith)
    of_row row at (IsOfRow.deadline x) =
        let m = some_at u.models row.model ((sound.rows_sound due.task.0 row at).filed).model in
        record {
          row = row;
          there = at;
          model = m.0;
          of_model = m.1;
          deadline = x.d;
          listed = ap (λ (o : Option ModelOf). slice_get (option_map_or (λ (n : ModelOf). n.deadlines) o []) due.place) (sym m.1) ∙ x.there;
          not_taken = x.not_taken;
          not_obsolete = x.not_obsolete;
        }

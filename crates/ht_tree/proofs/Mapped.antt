-- That tables stay sound where each row is changed in its place.
use Rattle.std.proofs.Common.{◌≡◌, ℕ, zero, suc, List, [], ◌∷◌, length, map, Option, Some, None, option_map, refl, sym, ap, ◌∙◌, subst, arith}
use Rattle.std.proofs.lemmas.Option.{slice_get-map}
use Rattle.ht_base.specs.declared.task_id.TaskId.{TaskId}
use Rattle.ht_tree.specs.declared.row.Row.{Row}
use Rattle.ht_tree.specs.Families.{HaveEndedBelow}
use Rattle.ht_tree.specs.Rows.{row_at}
use Rattle.ht_tree.specs.Soundness.{IsSound, IsSoundRow}
use Rattle.ht_tree.specs.Tables.{TablesOf, with_rows}
use Rattle.ht_tree.proofs.Families.{Alike, families_alike, length_alike, standing, total_alike}
use Rattle.ht_tree.proofs.Slots.{slots_of_more}
use Rattle.ht_tree.proofs.Sounding.{notices_of_more}

pub row_at-map : (f : Row → Row) (rows : List Row) (task : ℕ) → row_at task (map f rows) ≡ option_map f (row_at task rows)
row_at-map f rows zero = refl
row_at-map f rows (suc i) = slice_get-map f rows i

-- the row before it was changed
pub mapped_from : (f : Row → Row) (rows : List Row) (task : ℕ) (row : Row) → row_at task (map f rows) ≡ Some row → (old : Row) × (row_at task rows ≡ Some old) × (f old ≡ row)
mapped_from f rows task row at = go (row_at task rows) refl (sym (row_at-map f rows task) ∙ at)
  where
    go : (o : Option Row) → row_at task rows ≡ o → option_map f o ≡ Some row → (old : Row) × (row_at task rows ≡ Some old) × (f old ≡ row)
    go None is e = absurd cc
    go (Some old) is e = (old, is, cc)

-- which stands where it stood
pub map_alike : (f : Row → Row) → ((row : Row) → standing (f row) ≡ standing row) → (rows : List Row) → Alike rows (map f rows)
map_alike f same [] = refl
map_alike f same (row ∷ rows) = let h = same row in let rest = map_alike f same rows in cc

pub mapped_sound : (u : TablesOf) (f : Row → Row) → ((row : Row) → standing (f row) ≡ standing row) → ((row : Row) → IsSoundRow u row → IsSoundRow u (f row)) → HaveEndedBelow (map f u.rows) → IsSound u → IsSound (with_rows u (map f u.rows))
mapped_sound u f same fine ended sound =
    let alike = map_alike f same u.rows in
    record {
      numbered = λ task row at.
          let old = mapped_from f u.rows task row at in
          let number = sound.numbered task old.0 old.1 in
          let stands : row.task.0 ≡ (old.0).task.0 = ap (λ (r : Row). r.task.0) (sym old.2) ∙ ap (λ b. b.0) (same old.0) in
          stands ∙ number;
      rows_sound = λ task row at.
          let old = mapped_from f u.rows task row at in
          let P : Row → Type 0 = λ r. IsSoundRow u r in
          subst P old.2 (fine old.0 (sound.rows_sound task old.0 old.1));
      families = families_alike u.models u.rows (map f u.rows) sound.families alike ended;
      notices_sound = notices_of_more u.models (length u.people.persons) u.rows (map f u.rows) u.notices (λ task row at. (f row, row_at-map f u.rows task ∙ ap (option_map f) at, ap (λ (b : ℕ × (Option (TaskId × ℕ) × ℕ)). b.1.1) (same row))) sound.notices_sound;
      slots_ascend = sound.slots_ascend;
      slots_sound = let long = length_alike u.rows (map f u.rows) alike in slots_of_more u.people (length u.rows) (length (map f u.rows)) u.slots (omega arith) sound.slots_sound;
      last_within = sound.last_within;
      tasks_within = let total = total_alike u.models u.rows (map f u.rows) alike in let most = sound.tasks_within in omega arith;
    }

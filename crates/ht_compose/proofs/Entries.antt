-- The sub tasks of a task's entries: they are among its sub tasks, and are found by their numbers.
use Rattle.std.proofs.Common.{◌≡◌, ℕ, ◌==◌, zero, suc, Bool, true, false, ◌&&◌, List, [], ◌∷◌, ◌++◌, filter, map, Option, None, Some, if◌then◌else◌, refl, ap, ap₂, ◌∙◌}
use Rattle.std.proofs.lemmas.Bool.{and_parts}
use Rattle.std.specs.List.{list_any}
use Rattle.std.specs.Option.{option_map_or}
use Rattle.std.specs.Prelude.{slice_get}
use Rattle.ht_base.specs.declared.task_id.TaskId.{TaskId}
use Rattle.ht_compose.specs.Finding.{rows_of}
use Rattle.ht_compose.specs.Finishes.{all_ended, completed}
use Rattle.ht_base.specs.State.{is_completed, is_final}
use Rattle.ht_tree.specs.declared.row.Row.{Row}
use Rattle.ht_tree.specs.Families.{is_of_entry, is_sub_of, sub_tasks}
use Rattle.ht_tree.specs.Rows.{row_at}
use Rattle.ht_tree.specs.Soundness.{IsSound}
use Rattle.ht_tree.specs.Tables.{TablesOf, task_row}

-- ---- by their numbers

-- each of these rows stands at its number
abbrev pub AreThere : TablesOf → List Row → Type 0
AreThere u [] = Unit {0}
AreThere u (r ∷ rs) = (task_row u r.task.0 ≡ Some r) × AreThere u rs

pub found_again : (u : TablesOf) (rs : List Row) → AreThere u rs → rows_of u (map (λ r. r.task) rs) ≡ rs
found_again u [] there = refl
found_again u (r ∷ rs) there = rw (there.0) (ap (λ (l : List Row). r ∷ l) (found_again u rs there.1))

there_filtered : (u : TablesOf) (test : Row → Bool) (rs : List Row) → AreThere u rs → AreThere u (filter test rs)
there_filtered u test [] there = tt
there_filtered u test (r ∷ rs) there = at (test r) there.0 (there_filtered u test rs there.1)
  where
    at : (b : Bool) → task_row u r.task.0 ≡ Some r → AreThere u (filter test rs) → AreThere u (if b then r ∷ filter test rs else filter test rs)
    at true one rest = (one, rest)
    at false one rest = rest

there_behind : (u : TablesOf) (rs qs : List Row) → AreThere u rs → AreThere u qs → AreThere u (rs ++ qs)
there_behind u [] qs front back = back
there_behind u (r ∷ rs) qs front back = (front.0, there_behind u rs qs front.1 back)

by_places : (u : TablesOf) (rs : List Row) → ((i : ℕ) (r : Row) → slice_get rs i ≡ Some r → task_row u r.task.0 ≡ Some r) → AreThere u rs
by_places u [] each = tt
by_places u (r ∷ rs) each = (each 0 r refl, by_places u rs (λ i q at. each (suc i) q at))

all_there : (u : TablesOf) → IsSound u → AreThere u u.rows
all_there u sound = by_places u u.rows (λ i r at. let number = sound.numbered (suc i) r at in ap (λ (k : ℕ). row_at k u.rows) number ∙ at)

pub subs_again : (u : TablesOf) (task : ℕ) → IsSound u → rows_of u (map (λ r. r.task) (sub_tasks task u.rows)) ≡ sub_tasks task u.rows
subs_again u task sound = found_again u (sub_tasks task u.rows) (there_filtered u (is_sub_of task) u.rows (all_there u sound))

completed_there : (u : TablesOf) (task n : ℕ) (rows : List Row) → AreThere u rows → AreThere u (completed task n rows)
completed_there u task zero rows there = tt
completed_there u task (suc n) rows there =
    there_behind u (completed task n rows) (filter (λ s. is_of_entry task n s && is_completed s.state) rows)
    (completed_there u task n rows there) (there_filtered u (λ s. is_of_entry task n s && is_completed s.state) rows there)

pub completed_again : (u : TablesOf) (task n : ℕ) → IsSound u → rows_of u (map (λ r. r.task) (completed task n u.rows)) ≡ completed task n u.rows
completed_again u task n sound = found_again u (completed task n u.rows) (completed_there u task n u.rows (all_there u sound))

-- ---- among the sub tasks

pub of_entry_is_sub : (task entry : ℕ) (row : Row) → is_of_entry task entry row ≡ true → is_sub_of task row ≡ true
of_entry_is_sub task entry row is = at row.parent is
  where
    at : (o : Option (TaskId × ℕ)) → option_map_or (λ (p : TaskId × ℕ). (p.0.0 == task) && (p.1 == entry)) o false ≡ true → option_map_or (λ (p : TaskId × ℕ). p.0.0 == task) o false ≡ true
    at None h = cc
    at (Some p) h = (and_parts (p.0.0 == task) (p.1 == entry) h).0

-- a test that only sub tasks pass
module _ (task : ℕ) (test : Row → Bool) (only : (r : Row) → test r ≡ true → is_sub_of task r ≡ true) where
  filter_among : (rows : List Row) → filter test (sub_tasks task rows) ≡ filter test rows
  filter_among [] = refl
  filter_among (r ∷ rows) = at (is_sub_of task r) refl (test r) refl (filter_among rows)
    where
      at : (sub : Bool) → is_sub_of task r ≡ sub → (b : Bool) → test r ≡ b → filter test (sub_tasks task rows) ≡ filter test rows → filter test (sub_tasks task (r ∷ rows)) ≡ filter test (r ∷ rows)
      at true is true passes rest = rw (is, passes) (ap (λ (l : List Row). r ∷ l) rest)
      at true is false passes rest = rw (is, passes) rest
      at false is false passes rest = rw (is, passes) rest
      at false is true passes rest = let sub = only r passes in absurd cc

  pub any_among : (rows : List Row) → list_any test (sub_tasks task rows) ≡ list_any test rows
  any_among [] = refl
  any_among (r ∷ rows) = at (is_sub_of task r) refl (test r) refl (any_among rows)
    where
      at : (sub : Bool) → is_sub_of task r ≡ sub → (b : Bool) → test r ≡ b → list_any test (sub_tasks task rows) ≡ list_any test rows → list_any test (sub_tasks task (r ∷ rows)) ≡ list_any test (r ∷ rows)
      at true is true passes rest = rw (is, passes) refl
      at true is false passes rest = rw (is, passes) rest
      at false is false passes rest = rw (is, passes) rest
      at false is true passes rest = let sub = only r passes in absurd cc

pub ended_among : (task n : ℕ) (rows : List Row) → all_ended task n (sub_tasks task rows) ≡ all_ended task n rows
ended_among task zero rows = refl
ended_among task (suc n) rows =
    let test : Row → Bool = λ s. is_of_entry task n s && is_final s.state in
    ap₂ (λ (a b : Bool). a && b) (ended_among task n rows)
    (any_among task test (λ r h. of_entry_is_sub task n r (and_parts (is_of_entry task n r) (is_final r.state) h).0) rows)

pub completed_among : (task n : ℕ) (rows : List Row) → completed task n (sub_tasks task rows) ≡ completed task n rows
completed_among task zero rows = refl
completed_among task (suc n) rows =
    let test : Row → Bool = λ s. is_of_entry task n s && is_completed s.state in
    ap₂ (λ (a b : List Row). a ++ b) (completed_among task n rows)
    (filter_among task test (λ r h. of_entry_is_sub task n r (and_parts (is_of_entry task n r) (is_completed r.state) h).0) rows)

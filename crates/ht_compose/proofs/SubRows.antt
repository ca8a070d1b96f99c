-- What is asked of the sub tasks of a task, by their numbers.
use Rattle.std.proofs.Common.{◌≡◌, ℕ, ◌&&◌, ◌||◌, Bool, true, false, List, [], ◌∷◌, map, filter, if◌then◌else◌, refl, ap, ◌∙◌}
use Rattle.std.specs.List.{list_any}
use Rattle.ht_base.specs.declared.task_id.TaskId.{TaskId}
use Rattle.ht_compose.specs.Finding.{rows_of}
use Rattle.ht_compose.specs.Items.{has_sub_ended}
use Rattle.ht_compose.proofs.Entries.{any_among, of_entry_is_sub, subs_again}
use Rattle.ht_tree.specs.declared.row.Row.{Row}
use Rattle.ht_base.specs.State.{is_final}
use Rattle.ht_tree.specs.Families.{is_made, is_of_entry, is_sub_of, sub_tasks}
use Rattle.ht_tree.specs.Soundness.{IsSound}
use Rattle.ht_tree.specs.Tables.{TablesOf}

any_filtered : {X : Type 0} (test p : X → Bool) (xs : List X) → list_any test (filter p xs) ≡ list_any (λ x. p x && test x) xs
any_filtered test p [] = refl
any_filtered {X = X} test p (x ∷ xs) = go (p x) (any_filtered test p xs)
  where
    go : (b : Bool) → list_any test (filter p xs) ≡ list_any (λ x. p x && test x) xs → list_any test (if b then x ∷ filter p xs else filter p xs) ≡ ((b && test x) || list_any (λ x. p x && test x) xs)
    go true rest = ap (λ (a : Bool). test x || a) rest
    go false rest = rest

module _ (u : TablesOf) (sound : IsSound u) (task : ℕ) (ids : List TaskId) (are : ids ≡ map (λ r. r.task) (sub_tasks task u.rows)) where
  any_sub : (test : Row → Bool) → list_any test (rows_of u ids) ≡ list_any test (sub_tasks task u.rows)
  any_sub test = ap (λ (l : List TaskId). list_any test (rows_of u l)) are ∙ ap (λ (l : List Row). list_any test l) (subs_again u task sound)

  -- an entry is made where one of them has its place
  pub made_among : (entry : ℕ) → list_any (is_of_entry task entry) (rows_of u ids) ≡ is_made task entry u.rows
  made_among entry = any_sub (is_of_entry task entry) ∙ any_among task (is_of_entry task entry) (of_entry_is_sub task entry) u.rows

  pub ended_among_them : list_any (λ s. is_final s.state) (rows_of u ids) ≡ has_sub_ended u.rows task
  ended_among_them = any_sub (λ s. is_final s.state) ∙ any_filtered (λ s. is_final s.state) (is_sub_of task) u.rows

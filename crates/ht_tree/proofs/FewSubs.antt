-- A task has at most one sub task for each entry of its model.
use Rattle.std.proofs.Common.{◌≡◌, ℕ, ◌<◌, ◌≤◌, suc, Bool, true, false, List, [], ◌∷◌, ◌++◌, drop, eqb, length, map, take, Option, Some, if◌then◌else◌, refl, sym, ap, ◌∙◌, arith}
use Rattle.std.proofs.lemmas.Bool.{eqb-true, false_from_ne_true}
use Rattle.std.proofs.lemmas.List.{append-nil, length-append, length-map, nil_from_length, take-append-drop}
use Rattle.std.proofs.lemmas.List.Elements.{filter-append}
use Rattle.std.proofs.lemmas.Map.Steps.{length-le_from_distinct_below}
use Rattle.std.specs.List.{AllByRecursion, IsDistinct, list_any}
use Rattle.std.specs.Option.{option_and_then, option_map_or}
use Rattle.std.specs.Prelude.{slice_get}
use Rattle.ht_base.specs.declared.task_id.TaskId.{TaskId}
use Rattle.ht_models.specs.Model.{ModelOf}
use Rattle.ht_tree.specs.declared.row.Row.{Row}
use Rattle.ht_tree.specs.Families.{is_sub_of, sub_tasks}
use Rattle.ht_tree.specs.Soundness.{IsSound}
use Rattle.ht_tree.specs.Tables.{TablesOf, model_of, task_row}
use Rattle.ht_tree.proofs.SubTasks.{entry_there, parent_of_sub}

-- the place of the entry of which a row is
abbrev place_of : Row → ℕ
place_of row = option_map_or (λ p. p.1) row.parent 0

-- those of the sub tasks of a task
abbrev places : ℕ → List Row → List ℕ
places task rows = map place_of (sub_tasks task rows)

-- a sub task among these rows
record IsSubAmong (task : ℕ) (rows : List Row) (q : ℕ) : Type 0 where
  pub at : ℕ
  pub row : Row
  pub there : slice_get rows at ≡ Some row
  pub is_sub : is_sub_of task row ≡ true
  pub of_place : q ≡ place_of row

later : (task q : ℕ) (x : Row) (rows : List Row) → IsSubAmong task rows q → IsSubAmong task (x ∷ rows) q
later task q x rows s = record { at = suc s.at; row = s.row; there = s.there; is_sub = s.is_sub; of_place = s.of_place }

among : (task q : ℕ) (rows : List Row) → list_any (eqb q) (places task rows) ≡ true → IsSubAmong task rows q
among task q [] any = absurd cc
among task q (x ∷ rows) any = go (is_sub_of task x) refl any (among task q rows)
  where
    first : (b : Bool) → eqb q (place_of x) ≡ b → is_sub_of task x ≡ true → list_any (eqb q) (place_of x ∷ places task rows) ≡ true → (list_any (eqb q) (places task rows) ≡ true → IsSubAmong task rows q) → IsSubAmong task (x ∷ rows) q
    first true same is any rest = record { at = 0; row = x; there = refl; is_sub = is; of_place = eqb-true q (place_of x) same }
    first false other is any rest = later task q x rows (rest (rw other at any))

    go : (b : Bool) → is_sub_of task x ≡ b → list_any (eqb q) (map place_of (if b then x ∷ sub_tasks task rows else sub_tasks task rows)) ≡ true → (list_any (eqb q) (places task rows) ≡ true → IsSubAmong task rows q) → IsSubAmong task (x ∷ rows) q
    go false is any rest = later task q x rows (rest any)
    go true is any rest = first (eqb q (place_of x)) refl is any rest

-- ---- sub tasks of different entries

none_of : (task q : ℕ) (rows : List Row) → (IsSubAmong task rows q → ⊥) → AllByRecursion (λ y. eqb q y ≡ false) (places task rows)
none_of task q [] none = tt
none_of task q (x ∷ rows) none = go (is_sub_of task x) refl (none_of task q rows (λ s. none (later task q x rows s)))
  where
    go : (b : Bool) → is_sub_of task x ≡ b → AllByRecursion (λ y. eqb q y ≡ false) (places task rows) → AllByRecursion (λ y. eqb q y ≡ false) (map place_of (if b then x ∷ sub_tasks task rows else sub_tasks task rows))
    go false is rest = rest
    go true is rest = (false_from_ne_true (eqb q (place_of x)) (λ same. none (record { at = 0; row = x; there = refl; is_sub = is; of_place = eqb-true q (place_of x) same })), rest)

-- two of them at one place are one
abbrev AreApart : ℕ → List Row → Type 0
AreApart task rows = (i j : ℕ) (a b : Row) → slice_get rows i ≡ Some a → slice_get rows j ≡ Some b → is_sub_of task a ≡ true → is_sub_of task b ≡ true → place_of a ≡ place_of b → i ≡ j

distinct : (task : ℕ) (rows : List Row) → AreApart task rows → IsDistinct eqb (places task rows)
unfolding IsDistinct
distinct task [] apart = tt
distinct task (x ∷ rows) apart = go (is_sub_of task x) refl (distinct task rows (λ i j a b at bt sa sb same. let one = apart (suc i) (suc j) a b at bt sa sb same in omega arith))
  where
    go : (b : Bool) → is_sub_of task x ≡ b → IsDistinct eqb (places task rows) → IsDistinct eqb (map place_of (if b then x ∷ sub_tasks task rows else sub_tasks task rows))
    go false is rest = rest
    go true is rest = (none_of task (place_of x) rows (λ s. let one = apart 0 (suc s.at) x s.row refl s.there is s.is_sub s.of_place in absurd (omega arith)), rest)

-- ---- among the rows of sound tables

module _ (u : TablesOf) (sound : IsSound u) where
  apart : (task : ℕ) → AreApart task u.rows
  apart task i j a b at bt sa sb same =
      let p = parent_of_sub task a sa in
      let q = parent_of_sub task b sb in
      let P : Option (TaskId × ℕ) → ℕ = λ o. option_map_or (λ p. p.1) o 0 in
      let of_a : place_of a ≡ (p.0).1 = ap P p.1 in
      let of_b : place_of b ≡ (q.0).1 = ap P q.1 in
      let place : (q.0).1 ≡ (p.0).1 = sym of_b ∙ sym same ∙ of_a in
      let task_is : (q.0).0.0 ≡ (p.0).0.0 = q.2 ∙ sym p.2 in
      let one : q.0 ≡ p.0 = ap (λ (n : ℕ). (record { 0 = n }, (q.0).1)) task_is ∙ ap (λ (n : ℕ). ((p.0).0, n)) place in
      let number = (sound.families).made_once (suc i) (suc j) p.0 (ap (λ (o : Option Row). option_and_then (λ (r : Row). r.parent) o) at ∙ p.1) (ap (λ (o : Option Row). option_and_then (λ (r : Row). r.parent) o) bt ∙ q.1 ∙ ap (λ (x : TaskId × ℕ). Some x) one) in
      omega arith

  -- at most as many as its model has entries
  pub few_subs : (task : ℕ) (above : Row) (m : ModelOf) → task_row u task ≡ Some above → model_of u above ≡ Some m → length (sub_tasks task u.rows) ≤ length m.subs
  few_subs task above m there of_model =
      let below : (q : ℕ) → list_any (eqb q) (places task u.rows) ≡ true → q < length m.subs = λ q any.
      let s = among task q u.rows any in
      let p = parent_of_sub task s.row s.is_sub in
      let P : Option (TaskId × ℕ) → ℕ = λ o. option_map_or (λ p. p.1) o 0 in
      let of_row : place_of s.row ≡ (p.0).1 = ap P p.1 in
      let place = s.of_place in
      let low = entry_there u sound task above m there of_model (suc s.at) s.row s.there p.0 p.1 p.2 in
      omega arith in
      let few = length-le_from_distinct_below (places task u.rows) (length m.subs) (distinct task u.rows (apart task)) below in
      let long = length-map (sub_tasks task u.rows) place_of in
      omega arith

-- where as many are found as there can be, they are all
pub all_found : (task k : ℕ) (rows : List Row) → length (sub_tasks task rows) ≤ length (sub_tasks task (take k rows)) → sub_tasks task (take k rows) ≡ sub_tasks task rows
all_found task k rows few =
    let front = sub_tasks task (take k rows) in
    let behind = sub_tasks task (drop k rows) in
    let parts : sub_tasks task rows ≡ front ++ behind = ap (λ (l : List Row). sub_tasks task l) (sym (take-append-drop k rows)) ∙ filter-append (is_sub_of task) (take k rows) (drop k rows) in
    let counted = ap (λ (l : List Row). length l) parts in
    let long = length-append front behind in
    let none : behind ≡ [] = nil_from_length behind (omega arith) in
    sym (parts ∙ ap (λ (l : List Row). front ++ l) none ∙ append-nil front)

-- The sub tasks that the tables know, and those that a plan adds behind them.
use Rattle.std.proofs.Common.{◌≡◌, ℕ, ◌≤◌, ◌==◌, max, suc, Bool, true, false, List, [], ◌∷◌, length, map, take, Option, Some, None, refl, sym, ap, subst, ◌∙◌, inl, inr, arith}
use Rattle.std.specs.Prelude.{slice_get}
use Rattle.std.specs.Option.{option_map_or}
use Rattle.std.proofs.lemmas.Bool.{cases_lt}
use Rattle.ht_tree.specs.declared.row.Row.{Row}
use Rattle.ht_tree.specs.Families.{is_sub_of, sub_tasks}
use Rattle.ht_tree.specs.ListedBy.{KeepsParent, sub_ids}
use Rattle.ht_tree.specs.Plans.{IsPlanOf, KeepFiles, PlanOf, planned}
use Rattle.ht_tree.specs.Rows.{row_at}
use Rattle.ht_tree.specs.Soundness.{IsSound}
use Rattle.ht_tree.specs.Tables.{TablesOf}
use Rattle.ht_tree.proofs.Rows.{taken_at}
use Rattle.ht_tree.proofs.SubTasks.{lower, no_subs, parent_of_sub}

-- each of the first rows is of the same task and has the same parent as that in its place among the second
abbrev AreAlike : List Row → List Row → Type 0
AreAlike xs ys = (i : ℕ) (x : Row) → slice_get xs i ≡ Some x → (y : Row) × (slice_get ys i ≡ Some y) × (y.task ≡ x.task) × (y.parent ≡ x.parent)

alike_subs : (task : ℕ) (xs ys : List Row) → AreAlike xs ys → sub_ids task xs ≡ sub_ids task (take (length xs) ys)
alike_subs task [] ys are = refl
alike_subs task (x ∷ xs) [] are = let y = are 0 x refl in absurd cc
alike_subs task (x ∷ xs) (y ∷ ys) are =
    let z = are 0 x refl in
    let e : y ≡ z.0 = cc in
    let parent : y.parent ≡ x.parent = ap (λ (r : Row). r.parent) e ∙ z.3 in
    let number : y.task ≡ x.task = ap (λ (r : Row). r.task) e ∙ z.2 in
    at (is_sub_of task x) refl (ap (λ o. option_map_or (λ p. p.0.0 == task) o false) parent) number (alike_subs task xs ys (λ i r there. are (suc i) r there))
  where
    at : (b : Bool) → is_sub_of task x ≡ b → is_sub_of task y ≡ is_sub_of task x → y.task ≡ x.task → sub_ids task xs ≡ sub_ids task (take (length xs) ys) → sub_ids task (x ∷ xs) ≡ sub_ids task (y ∷ take (length xs) ys)
    at true is same number rest = rw (is, same ∙ is) (ap (λ l. x.task ∷ l) rest ∙ ap (λ t. t ∷ sub_ids task (take (length xs) ys)) (sym number))
    at false is same number rest = rw (is, same ∙ is) rest

module _ (t u : TablesOf) (sound : IsSound t) (later_sound : IsSound u) (keep : KeepFiles t.rows u.rows) where
  alike : AreAlike t.rows u.rows
  alike i x at =
      let k = keep (suc i) x at in
      let m = sound.numbered (suc i) x at in
      let n = later_sound.numbered (suc i) k.0 k.1 in
      let e : (k.0).task.0 ≡ x.task.0 = n ∙ sym m in
      (k.0, k.1, ap (λ j. record { 0 = j }) e, k.2)

  -- none stands before its parent
  none_up_to : (task n : ℕ) → n ≤ task → sub_tasks task (take n u.rows) ≡ []
  none_up_to task n few = no_subs task (take n u.rows) (λ i row at is.
      let there = taken_at n u.rows i row at in
      let p = parent_of_sub task row is in
      let below = lower u later_sound (suc i) row there.1 (Some p.0) p.1 in
      let same = p.2 in
      let low = there.0 in
      absurd (omega arith))

  pub known_subs : (task : ℕ) → sub_ids task t.rows ≡ map (λ r. r.task) (sub_tasks task (take (max (length t.rows) task) u.rows))
  known_subs task = elim (cases_lt (length t.rows) task) [
    | inl beyond ↦
        alike_subs task t.rows u.rows alike
        ∙ ap (map (λ (r : Row). r.task)) (none_up_to task (length t.rows) (omega arith))
        ∙ sym (ap (λ n. map (λ (r : Row). r.task) (sub_tasks task (take n u.rows))) (largest (length t.rows) task (omega arith)) ∙ ap (map (λ (r : Row). r.task)) (none_up_to task task (omega arith)))
    | inr within ↦ alike_subs task t.rows u.rows alike ∙ ap (λ n. map (λ (r : Row). r.task) (sub_tasks task (take n u.rows))) (first (length t.rows) task within)
  ]
    where
      largest : (m n : ℕ) → m ≤ n → max m n ≡ n
      largest m n l = omega arith

      first : (m n : ℕ) → n ≤ m → m ≡ max m n
      first m n l = omega arith

-- a plan leaves each task of the tables below its parent, and of its model
pub keep_on : (t : TablesOf) (p : PlanOf) → IsPlanOf t p → KeepFiles t.rows (planned t p).rows
keep_on t p fits task before at =
    let m = fits.marked_filed task before at in
    let n = fits.changes_filed task m.0 m.1 in
    (n.0, n.1, n.2 ∙ m.2, n.3 ∙ m.3)

pub keeps_parent : (old new : List Row) (task : ℕ) (was is : Option Row) → was ≡ row_at task old → is ≡ row_at task new → KeepFiles old new → KeepsParent was is
keeps_parent old new task None is before after keep = tt
keeps_parent old new task (Some x) is before after keep =
    let k = keep task x (sym before) in
    let P : Option Row → Type 0 = λ o. KeepsParent (Some x) o in
    subst P (sym (after ∙ k.1)) k.2

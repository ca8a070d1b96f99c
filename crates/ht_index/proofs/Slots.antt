-- Lists of all keys, as one of them changes.
use Rattle.std.proofs.Common.{◌≡◌, ℕ, ◌<◌, ◌≤◌, ◌==◌, ◌&&◌, zero, suc, Bool, true, false, if◌then◌else◌, List, [], ◌∷◌, ◌++◌, length, map, slice_set, Some, refl, sym, ap, ◌∙◌, inl, inr, arith, eq-eqb}
use Rattle.std.specs.Prelude.{slice_get}
use Rattle.std.specs.Option.{option_map_or}
use Rattle.std.proofs.lemmas.Bool.{cases_eq}
use Rattle.ht_base.specs.declared.task_id.TaskId.{TaskId}
use Rattle.ht_index.specs.declared.moves.Move.{Move}
use Rattle.ht_index.specs.Indexes.{list_of, moved, with_task, without_task}
use Rattle.ht_index.specs.Kept.{coming_by, list_at, spare_at}
use Rattle.ht_index.specs.Listed.{ListedOf}
use Rattle.ht_index.proofs.Places.{apart}

pub at_same : {A : Type 0} (xs : List A) (p : ℕ) (x : A) → p < length xs → slice_get (slice_set xs p x) p ≡ Some x
at_same [] p x l = absurd (omega arith)
at_same (y ∷ xs) zero x l = refl
at_same (y ∷ xs) (suc p) x l = at_same xs p x (omega arith)

pub at_other : {A : Type 0} (xs : List A) (i p : ℕ) (x : A) → (i ≡ p → ⊥) → slice_get (slice_set xs p x) i ≡ slice_get xs i
at_other [] i p x other = refl
at_other (y ∷ xs) zero zero x other = absurd (other refl)
at_other (y ∷ xs) zero (suc p) x other = refl
at_other (y ∷ xs) (suc i) zero x other = refl
at_other (y ∷ xs) (suc i) (suc p) x other = at_other xs i p x (λ e. other (ap (λ n. suc n) e))

pub part_of : {A B : Type 0} (f : A → B) (d : B) (lists : List A) (p : ℕ) (l : A) → slice_get lists p ≡ Some l → option_map_or f (slice_get lists p) d ≡ f l
part_of f d lists p l at = ap (λ o. option_map_or f o d) at

-- a part of the list at a place, of which the list changes
module _ {A B : Type 0} (f : A → B) (d : B) (lists : List A) (p : ℕ) (l : A) where
  pub part_here : (k : ℕ) → p < length lists → k ≡ p → option_map_or f (slice_get (slice_set lists p l) k) d ≡ f l
  part_here k low e = ap (λ n. option_map_or f (slice_get (slice_set lists p l) n) d) e ∙ ap (λ o. option_map_or f o d) (at_same lists p l low)

  pub part_there : (k : ℕ) → (k ≡ p → ⊥) → option_map_or f (slice_get (slice_set lists p l) k) d ≡ option_map_or f (slice_get lists k) d
  part_there k other = ap (λ o. option_map_or f o d) (at_other lists k p l other)

  -- and which stays in this
  pub part_kept : (old : A) → slice_get lists p ≡ Some old → f l ≡ f old → p < length lists → (k : ℕ) → option_map_or f (slice_get (slice_set lists p l) k) d ≡ option_map_or f (slice_get lists k) d
  part_kept old at same low k = elim (cases_eq k p) [
    | inl e ↦ part_here k low e ∙ same ∙ sym (ap (λ n. option_map_or f (slice_get lists n) d) e ∙ ap (λ o. option_map_or f o d) at)
    | inr other ↦ part_there k other
  ]

-- ---- lists that are there

-- a list that has room is there
pub there : (k : ℕ) (lists : List ListedOf) → 1 ≤ spare_at k lists → k < length lists
there k [] some = absurd (omega arith)
there zero (l ∷ lists) some = omega arith
there (suc k) (l ∷ lists) some = let e = there k lists some in omega arith

-- one that is empty and has no room may stand behind them
pub one_more : (k : ℕ) (lists : List ListedOf) → (list_at k (lists ++ record { tasks = []; spare = 0 } ∷ []) ≡ list_at k lists) × (spare_at k (lists ++ record { tasks = []; spare = 0 } ∷ []) ≡ spare_at k lists)
one_more zero [] = (refl, refl)
one_more (suc k) [] = (refl, refl)
one_more zero (l ∷ lists) = (refl, refl)
one_more (suc k) (l ∷ lists) = one_more k lists

-- ---- those that come

abbrev one_where : Bool → ℕ
one_where b = if b then 1 else 0

pub comes_here : (m : Move) → m.comes ≡ true → coming_by m.key m ≡ 1
comes_here m is = ap (λ b. one_where (b && (m.key == m.key))) is ∙ ap one_where (eq-eqb m.key m.key refl)

pub comes_nowhere : (k : ℕ) (m : Move) → m.comes ≡ false → coming_by k m ≡ 0
comes_nowhere k m is = ap (λ b. one_where (b && (m.key == k))) is

pub comes_elsewhere : (k : ℕ) (m : Move) → (k ≡ m.key → ⊥) → coming_by k m ≡ 0
comes_elsewhere k m other = at m.comes
  where
    at : (b : Bool) → one_where (b && (m.key == k)) ≡ zero
    at true = ap one_where (apart m.key k (λ e. other (sym e)))
    at false = refl

-- ---- one move

pub moved_there : (k : ℕ) (tasks : List TaskId) (m : Move) → (k ≡ m.key → ⊥) → moved k tasks m ≡ tasks
moved_there k tasks m other = ap (λ b. if b then (if m.comes then with_task m.task tasks else without_task m.task tasks) else tasks) (apart m.key k (λ e. other (sym e)))

pub moved_here : (k : ℕ) (tasks : List TaskId) (m : Move) → k ≡ m.key → moved k tasks m ≡ (if m.comes then with_task m.task tasks else without_task m.task tasks)
moved_here k tasks m e = ap (λ b. if b then (if m.comes then with_task m.task tasks else without_task m.task tasks) else tasks) (eq-eqb m.key k (sym e))

-- ---- as they are seen

pub seen_by : {A : Type 0} (f : A → List TaskId) (k : ℕ) (kept : List A) (moves : List Move) → list_of k (record { lists = map f kept; moves = moves }) ≡ option_map_or f (slice_get kept k) []
seen_by f zero [] moves = refl
seen_by f (suc k) [] moves = refl
seen_by f zero (l ∷ kept) moves = refl
seen_by f (suc k) (l ∷ kept) moves = seen_by f k kept moves

pub seen : (k : ℕ) (lists : List ListedOf) (moves : List Move) → list_of k (record { lists = map (λ l. l.tasks) lists; moves = moves }) ≡ list_at k lists
seen k lists moves = seen_by (λ (l : ListedOf). l.tasks) k lists moves

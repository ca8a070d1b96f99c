-- Where a task stands in an ascending list.
use Rattle.std.proofs.Common.{◌≡◌, ℕ, ◌+◌, ◌<◌, ◌≤◌, ◌==◌, zero, suc, Bool, true, false, List, [], ◌∷◌, ◌++◌, length, get_or, slice_get, slice_set, Some, None, Result, Ok, Err, IfOk, IfErr, Ordering, Less, Equal, Greater, refl, ap, sym, ◌∙◌, arith, eq-eqb}
use Rattle.std.specs.List.{AllByRecursion, insert, remove}
use Rattle.std.specs.List.Sorted.{IsBinarySearchResult, IsSearchInRange}
use Rattle.std.specs.Ordering.{nat_cmp}
use Rattle.std.specs.Cmp.{nat_cmp_is}
use Rattle.std.proofs.lemmas.Bool.Decides.{nat_tests}
use Rattle.std.proofs.lemmas.Cmp.{nat_cmp_total, ranked}
use Rattle.std.proofs.lemmas.Option.{slice_get-get_or}
use Rattle.ht_base.specs.declared.task_id.TaskId.{TaskId}
use Rattle.ht_base.specs.Ordered.{found_by}
use Rattle.ht_base.proofs.PublicLaws.{IsGap, IsThere, ascend_placed, searched_by}
use Rattle.ht_index.specs.Indexes.{Ascends, with_task, without_task}
use Rattle.ht_index.specs.Listed.{BelongsAt, StandsAt}

abbrev number : TaskId → ℕ
number t = t.0

pub less : (m n : ℕ) → nat_cmp m n ≡ Less → m < n
less m n e = ranked m n Less (sym e)

pub exact : (m n : ℕ) → nat_cmp m n ≡ Equal → m ≡ n
exact m n e = ranked m n Equal (sym e)

pub apart : (m n : ℕ) → (m ≡ n → ⊥) → (m == n) ≡ false
apart m n d = grind (arith, nat_tests)

-- one of another number stays
pub stays : (task x : TaskId) (xs : List TaskId) → (x.0 ≡ task.0 → ⊥) → without_task task (x ∷ xs) ≡ x ∷ without_task task xs
stays task x xs other = rw (apart x.0 task.0 other) refl

pub leaves : (task x : TaskId) (xs : List TaskId) → x.0 ≡ task.0 → without_task task (x ∷ xs) ≡ without_task task xs
leaves task x xs same = rw (eq-eqb x.0 task.0 same) refl

-- all of them come behind it, so it isn't one of them
none_of_later : (task : TaskId) (xs : List TaskId) → AllByRecursion (λ y. nat_cmp task.0 y.0 ≡ Less) xs → without_task task xs ≡ xs
none_of_later task [] a = refl
none_of_later task (x ∷ xs) a = let l = less task.0 x.0 a.0 in stays task x xs (λ e. omega arith) ∙ ap (λ ys. x ∷ ys) (none_of_later task xs a.1)

-- at a place
later_at : (x y : TaskId) (xs : List TaskId) (i : ℕ) → AllByRecursion (λ z. nat_cmp x.0 z.0 ≡ Less) xs → slice_get xs i ≡ Some y → x.0 < y.0
later_at x y [] i a at = cc
later_at x y (z ∷ xs) zero a at = let e : z ≡ y = cc in less x.0 y.0 (ap (λ (t : TaskId). nat_cmp x.0 t.0) (sym e) ∙ a.0)
later_at x y (z ∷ xs) (suc i) a at = later_at x y xs i a.1 at

pub removed_at : (task : TaskId) (xs : List TaskId) (i : ℕ) → Ascends xs → slice_get xs i ≡ Some task → remove xs i ≡ without_task task xs
removed_at task [] i up at = cc
removed_at task (x ∷ xs) zero up at =
    let e : x ≡ task = cc in
    let n : x.0 ≡ task.0 = ap (λ (t : TaskId). t.0) e in
    sym (leaves task x xs n ∙ sym (ap (λ (t : TaskId). without_task t xs) e) ∙ none_of_later x xs up.0)
removed_at task (x ∷ xs) (suc i) up at =
    let l = later_at x task xs i up.0 at in
    ap (λ ys. x ∷ ys) (removed_at task xs i up.1 at) ∙ sym (stays task x xs (λ e. omega arith))

set_same : (xs : List TaskId) (i : ℕ) (x : TaskId) → slice_get xs i ≡ Some x → slice_set xs i x ≡ xs
set_same [] i x at = refl
set_same (y ∷ xs) zero x at = let e : y ≡ x = cc in ap (λ z. z ∷ xs) (sym e)
set_same (y ∷ xs) (suc i) x at = ap (λ ys. y ∷ ys) (set_same xs i x at)

-- none is found of its number
absent : (task : TaskId) (xs : List TaskId) → found_by (λ y. nat_cmp y.0 task.0) xs ≡ None → without_task task xs ≡ xs
absent task [] none = refl
absent task (x ∷ xs) none = at (nat_cmp x.0 task.0) refl (absent task xs)
  where
    at : (o : Ordering) → nat_cmp x.0 task.0 ≡ o → (found_by (λ y. nat_cmp y.0 task.0) xs ≡ None → without_task task xs ≡ xs) → without_task task (x ∷ xs) ≡ x ∷ xs
    at Less is rest = let l : x.0 < task.0 = ranked x.0 task.0 Less (sym is) in stays task x xs (λ e. omega arith) ∙ ap (λ ys. x ∷ ys) (rest (rw is at none))
    at Equal is rest = let e : Some x ≡ None = rw is at none in cc
    at Greater is rest = let l : task.0 < x.0 = ranked x.0 task.0 Greater (sym is) in stays task x xs (λ e. omega arith) ∙ ap (λ ys. x ∷ ys) (rest (rw is at none))

pub belongs : (task : TaskId) (xs : List TaskId) (i : ℕ) → IsGap number nat_cmp nat_cmp_total task.0 xs i → BelongsAt task xs i
belongs task xs i is = record { within = is.within; put = is.inserted task; removed = sym (absent task xs is.none) }

pub stands : (task : TaskId) (xs : List TaskId) (i : ℕ) → Ascends xs → ((d : TaskId) → nat_cmp (get_or xs i d).0 task.0 ≡ Equal) → IsThere number nat_cmp nat_cmp_total task.0 xs i → StandsAt task xs i
stands task xs i up here is =
    let n : (get_or xs i task).0 ≡ task.0 = exact (get_or xs i task).0 task.0 (here task) in
    let same : get_or xs i task ≡ task = ap (λ m. record { 0 = m }) n in
    let at : slice_get xs i ≡ Some task = slice_get-get_or xs i task is.within ∙ ap (λ (t : TaskId). Some t) same in
    record {
      within = is.within;
      put = sym (set_same xs i task at) ∙ is.replaced task;
      removed = removed_at task xs i up at;
    }

pub search_found : (task : TaskId) (xs : List TaskId) (r : Result ℕ ℕ) → Ascends xs → IsSearchInRange r (length xs) → IsBinarySearchResult (λ y. nat_cmp y.0 task.0) xs r → IfOk r (StandsAt task xs)
search_found task xs (Ok i) up within at = stands task xs i up at (searched_by number nat_cmp nat_cmp_total task.0 xs (Ok i) up within at)
search_found task xs (Err i) up within at = tt

pub search_missed : (task : TaskId) (xs : List TaskId) (r : Result ℕ ℕ) → Ascends xs → IsSearchInRange r (length xs) → IsBinarySearchResult (λ y. nat_cmp y.0 task.0) xs r → IfErr r (BelongsAt task xs)
search_missed task xs (Ok i) up within at = tt
search_missed task xs (Err i) up within at = belongs task xs i (searched_by number nat_cmp nat_cmp_total task.0 xs (Err i) up within at)

-- ---- behind all

pub not_later : (xs : List TaskId) (x y : TaskId) (k i : ℕ) → Ascends xs → slice_get xs k ≡ Some x → slice_get xs i ≡ Some y → k ≤ i → x.0 ≤ y.0
not_later [] x y k i up at also low = cc
not_later (z ∷ xs) x y zero zero up at also low = let e : x ≡ y = cc in let n : x.0 ≡ y.0 = ap (λ (t : TaskId). t.0) e in omega arith
not_later (z ∷ xs) x y zero (suc i) up at also low =
    let e : z ≡ x = cc in
    let n : z.0 ≡ x.0 = ap (λ (t : TaskId). t.0) e in
    let l = later_at z y xs i up.0 also in
    omega arith
not_later (z ∷ xs) x y (suc k) zero up at also low = absurd (omega arith)
not_later (z ∷ xs) x y (suc k) (suc i) up at also low = not_later xs x y k i up.1 at also (omega arith)

pub behind_all : (task y : TaskId) (xs : List TaskId) (i : ℕ) → Ascends xs → slice_get xs i ≡ Some y → length xs ≤ i + 1 → y.0 < task.0 → BelongsAt task xs (length xs)
behind_all task y xs i up at last low =
    belongs task xs (length xs)
    (searched_by number nat_cmp nat_cmp_total task.0 xs (Err (length xs)) up (omega arith) (λ rises. (
      (λ k d from to.
          let within : k < length xs = omega arith in
          let x = get_or xs k d in
          let n = not_later xs x y k i up (slice_get-get_or xs k d within) at (omega arith) in
          sym (nat_cmp_is x.0 task.0 Less (omega arith))),
      (λ k d from to. absurd (omega arith)),
    )))

pub behind_none : (task : TaskId) (xs : List TaskId) → length xs ≡ 0 → BelongsAt task xs (length xs)
behind_none task [] e = record { within = omega arith; put = refl; removed = refl }
behind_none task (x ∷ xs) e = absurd (omega arith)

-- ---- in order

pub ascends_with : (task : TaskId) (xs : List TaskId) → Ascends xs → Ascends (with_task task xs)
ascends_with task xs up = ascend_placed number nat_cmp nat_cmp_total task.0 task xs refl up

before_kept : (task : TaskId) (n : ℕ) (xs : List TaskId) → AllByRecursion (λ y. nat_cmp n y.0 ≡ Less) xs → AllByRecursion (λ y. nat_cmp n y.0 ≡ Less) (without_task task xs)
before_kept task n [] a = tt
before_kept task n (x ∷ xs) a = at (x.0 == task.0) refl (before_kept task n xs a.1)
  where
    at : (b : Bool) → (x.0 == task.0) ≡ b → AllByRecursion (λ y. nat_cmp n y.0 ≡ Less) (without_task task xs) → AllByRecursion (λ y. nat_cmp n y.0 ≡ Less) (without_task task (x ∷ xs))
    at true is rest = rw is rest
    at false is rest = rw is (a.0, rest)

pub ascends_without : (task : TaskId) (xs : List TaskId) → Ascends xs → Ascends (without_task task xs)
ascends_without task [] up = tt
ascends_without task (x ∷ xs) up = at (x.0 == task.0) refl (ascends_without task xs up.1)
  where
    at : (b : Bool) → (x.0 == task.0) ≡ b → Ascends (without_task task xs) → Ascends (without_task task (x ∷ xs))
    at true is rest = rw is rest
    at false is rest = rw is (before_kept task x.0 xs up.0, rest)

pub put_last : (task : TaskId) (xs : List TaskId) → BelongsAt task xs (length xs) → xs ++ task ∷ [] ≡ with_task task xs
put_last task xs at = sym (inserted xs) ∙ at.put
  where
    inserted : (ys : List TaskId) → insert ys (length ys) task ≡ ys ++ task ∷ []
    inserted [] = refl
    inserted (y ∷ ys) = ap (λ l. y ∷ l) (inserted ys)

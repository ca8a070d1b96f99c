-- Where a due stands in a list in order.
use Rattle.std.proofs.Common.{◌≡◌, ℕ, ◌+◌, ◌<◌, ◌≤◌, zero, suc, true, List, [], ◌∷◌, ◌++◌, length, take, drop, get_or, Some, None, refl, sym, ap, subst, ◌∙◌, arith, Result, Ok, Err, IfOk, IfErr, ◌||◌}
use Rattle.std.specs.Prelude.{slice_get}
use Rattle.std.specs.List.Sorted.{IsBinarySearchResult, IsNonDecreasingBy, IsPartitionPoint, IsSearchInRange, IsSortedBy}
use Rattle.std.specs.Ordering.{is_eq, is_lt, match_ordering, ordering_index}
use Rattle.std.specs.declared.cmp.Ordering.TheVariants.{Less, Equal, Greater}
use Rattle.std.proofs.lemmas.List.Sorted.{searchable_from_sorted}
use Rattle.std.proofs.lemmas.Option.{slice_get-get_or}
use Rattle.ht_due.specs.declared.due.Due.{Due}
use Rattle.ht_due.specs.Dues.{Ascends, compare_dues, has, next_after, put_due, without}
use Rattle.ht_due.specs.Places.{BelongsAt, StandsAt}
use Rattle.ht_due.proofs.Order.{Before, due_order, equal_is, exact, flip}

-- one that comes behind those in front of a place, and before those from there on, belongs there
pub missed : (xs : List Due) (y : Due) (i : ℕ) → i ≤ length xs → ((k : ℕ) (d : Due) → k < i → compare_dues (get_or xs k d) y ≡ Less) → ((k : ℕ) (d : Due) → i ≤ k → k < length xs → compare_dues (get_or xs k d) y ≡ Greater) → BelongsAt y xs i
missed [] y zero h low high = record { within = h; absent = refl; put = refl; others = refl; next = refl }
missed [] y (suc i) h low high = absurd (omega arith)
missed (x ∷ xs) y zero h low high =
    let e : compare_dues y x ≡ Less = flip x y Greater (high 0 x (omega arith) (omega arith)) in
    let rest = missed xs y 0 (omega arith) (λ k d l. absurd (omega arith)) (λ k d l m. high (suc k) d (omega arith) (omega arith)) in
    record {
      within = h;
      absent = ap (λ o. is_eq o || has y xs) e ∙ rest.absent;
      put = sym (ap (λ o. match_ordering o (y ∷ x ∷ xs) (x ∷ xs) (x ∷ put_due xs y)) e);
      others = ap (λ o. match_ordering o (x ∷ xs) xs (x ∷ without xs y)) e;
      next = sym (ap (λ o. match_ordering o (Some x) (next_after y xs) (next_after y xs)) e);
    }
missed (x ∷ xs) y (suc i) h low high =
    let e : compare_dues y x ≡ Greater = flip x y Less (low 0 x (omega arith)) in
    let rest = missed xs y i (omega arith) (λ k d l. low (suc k) d (omega arith)) (λ k d l m. high (suc k) d (omega arith) (omega arith)) in
    record {
      within = h;
      absent = ap (λ o. is_eq o || has y xs) e ∙ rest.absent;
      put = ap (λ l. x ∷ l) rest.put ∙ sym (ap (λ o. match_ordering o (y ∷ x ∷ xs) (x ∷ xs) (x ∷ put_due xs y)) e);
      others = ap (λ o. match_ordering o (x ∷ xs) xs (x ∷ without xs y)) e ∙ ap (λ l. x ∷ l) rest.others;
      next = rest.next ∙ sym (ap (λ o. match_ordering o (Some x) (next_after y xs) (next_after y xs)) e);
    }

pub record IsFound (xs : List Due) (y : Due) (i : ℕ) : Type 0 where
  pub present : has y xs ≡ true
  pub gone : take i xs ++ drop (suc i) xs ≡ without xs y
  pub next : slice_get xs (suc i) ≡ next_after y xs

pub before_at : (x y : Due) (xs : List Due) (i : ℕ) → Before x xs → slice_get xs i ≡ Some y → compare_dues x y ≡ Less
before_at x y [] i b at = absurd (no at)
  where
    no : None ≡ Some y → ⊥
    no e = cc
before_at x y (z ∷ xs) zero b at = let same : z ≡ y = some at in ap (λ (d : Due). compare_dues x d) (sym same) ∙ b.0
  where
    some : Some z ≡ Some y → z ≡ y
    some e = cc
before_at x y (z ∷ xs) (suc i) b at = before_at x y xs i b.1 at

next_first : (y : Due) (xs : List Due) → Before y xs → slice_get xs 0 ≡ next_after y xs
next_first y [] b = refl
next_first y (x ∷ xs) b = sym (ap (λ o. match_ordering o (Some x) (next_after y xs) (next_after y xs)) b.0)

pub found : (xs : List Due) (y : Due) (i : ℕ) → Ascends xs → slice_get xs i ≡ Some y → IsFound xs y i
found [] y i a at = absurd (no at)
  where
    no : None ≡ Some y → ⊥
    no e = cc
found (x ∷ xs) y zero a at =
    let same : x ≡ y = some at in
    let e : compare_dues y x ≡ Equal = equal_is y x (sym same) in
    let P : Due → Type 0 = λ d. Before d xs in
    record {
      present = ap (λ o. is_eq o || has y xs) e;
      gone = sym (ap (λ o. match_ordering o (x ∷ xs) xs (x ∷ without xs y)) e);
      next = next_first y xs (subst P same a.0) ∙ sym (ap (λ o. match_ordering o (Some x) (next_after y xs) (next_after y xs)) e);
    }
  where
    some : Some x ≡ Some y → x ≡ y
    some e = cc
found (x ∷ xs) y (suc i) a at =
    let e : compare_dues y x ≡ Greater = flip x y Less (before_at x y xs i a.0 at) in
    let rest = found xs y i a.1 at in
    record {
      present = ap (λ o. is_eq o || has y xs) e ∙ rest.present;
      gone = ap (λ l. x ∷ l) rest.gone ∙ sym (ap (λ o. match_ordering o (x ∷ xs) xs (x ∷ without xs y)) e);
      next = rest.next ∙ sym (ap (λ o. match_ordering o (Some x) (next_after y xs) (next_after y xs)) e);
    }

-- ---- what a binary search says

rises : (xs : List Due) → Ascends xs → IsSortedBy (λ a b. is_lt (compare_dues a b)) xs
rises [] a k d l h = absurd (omega arith)
rises (x ∷ []) a k d l h = absurd (omega arith)
rises (x ∷ y ∷ xs) a zero d l h = ap is_lt (flip x y Less (a.0).0)
rises (x ∷ y ∷ xs) a (suc k) d l h =
    let e : suc k + 1 ≡ suc (k + 1) = omega arith in
    ap (λ n. is_lt (compare_dues (get_or (x ∷ y ∷ xs) n d) (get_or (y ∷ xs) k d))) e ∙ rises (y ∷ xs) a.1 k d (omega arith) (omega arith)

pub missed_by : (xs : List Due) (y : Due) (i : ℕ) → Ascends xs → i ≤ length xs → (IsNonDecreasingBy (λ x. ordering_index (compare_dues x y)) xs → IsPartitionPoint (λ x. compare_dues x y ≡ Less) (λ x. compare_dues x y ≡ Greater) xs i) → BelongsAt y xs i
missed_by xs y i a h part =
    let p = part (searchable_from_sorted due_order (λ (d : Due). d) xs y (rises xs a)) in
    missed xs y i h (λ k d l. p.0 k d (omega arith) l) (λ k d l m. p.1 k d l m)

pub found_by : (xs : List Due) (y : Due) (i : ℕ) → Ascends xs → i < length xs → ((d : Due) → compare_dues (get_or xs i d) y ≡ Equal) → IsFound xs y i
found_by xs y i a h at = found xs y i a (slice_get-get_or xs i y h ∙ ap (λ (d : Due). Some d) (exact (get_or xs i y) y (at y)))

pub found_clause : (xs : List Due) (y : Due) (r : Result ℕ ℕ) → Ascends xs → IsSearchInRange r (length xs) → IsBinarySearchResult (λ x. compare_dues x y) xs r → IfOk r (λ i. StandsAt y xs i)
found_clause xs y (Ok i) a b s =
    let f = found_by xs y i a b s in
    let e : i + 1 ≡ suc i = omega arith in
    record { within = b; there = f.present; others = f.gone; next = ap (λ k. slice_get xs k) e ∙ f.next }
found_clause xs y (Err i) a b s = tt

pub missed_clause : (xs : List Due) (y : Due) (r : Result ℕ ℕ) → Ascends xs → IsSearchInRange r (length xs) → IsBinarySearchResult (λ x. compare_dues x y) xs r → IfErr r (λ i. BelongsAt y xs i)
missed_clause xs y (Ok i) a b s = tt
missed_clause xs y (Err i) a b s = missed_by xs y i a b s

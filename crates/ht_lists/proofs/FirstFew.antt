-- The first of a list in order, of which only the first are kept meanwhile.
use Rattle.std.proofs.Common.{◌≡◌, ℕ, ◌+◌, ◌-◌, ◌≤◌, zero, suc, false, true, List, [], ◌∷◌, ◌++◌, length, fold, take, Some, slice_get, Ordering, Less, Equal, Greater, refl, ap, sym, subst, ◌∙◌, arith}
use Rattle.std.specs.List.{AllByRecursion}
use Rattle.std.specs.Ordering.{is_lt, match_ordering, ordering_reverse}
use Rattle.std.specs.Cmp.{IsTotalOrder}
use Rattle.std.proofs.lemmas.Cmp.{tied_itself}
use Rattle.std.proofs.lemmas.List.{take-take}
use Rattle.std.proofs.lemmas.List.Sums.{fold-append}
use Rattle.ht_lists.specs.Sorted.{put_by, sorted_by}
use Rattle.ht_lists.proofs.OneOrder.{Rises, one_list, rises_all, ties_all}

pub take_nil : {A : Type 0} (n : ℕ) → take {A = A} n [] ≡ []
take_nil zero = refl
take_nil (suc n) = refl

all_fewer : {A : Type 0} (P : A → Type 0) (n : ℕ) (xs : List A) → AllByRecursion P (take (suc n) xs) → AllByRecursion P (take n xs)
all_fewer P zero xs a = tt
all_fewer P (suc n) [] a = tt
all_fewer P (suc n) (x ∷ xs) a = (a.0, all_fewer P n xs a.1)

pub all_take : {A : Type 0} (P : A → Type 0) (n : ℕ) (xs : List A) → AllByRecursion P xs → AllByRecursion P (take n xs)
all_take P zero xs a = tt
all_take P (suc n) [] a = tt
all_take P (suc n) (x ∷ xs) a = (a.0, all_take P n xs a.1)

all_at : {A : Type 0} (P : A → Type 0) (xs : List A) (i : ℕ) (x : A) → AllByRecursion P xs → slice_get xs i ≡ Some x → P x
all_at P [] i x a at = absurd (no at)
  where
    no : {A : Type 0} {x : A} → slice_get [] i ≡ Some x → ⊥
    no e = cc
all_at P (y ∷ ys) zero x a at = let same : y ≡ x = cc in subst P same a.0
all_at P (y ∷ ys) (suc i) x a at = all_at P ys i x a.1 at

module _ {A : Type 0} (cmp : A → A → Ordering) where
  -- ---- sorting loses none and adds none

  pub length-put : (xs : List A) (x : A) → length (put_by cmp xs x) ≡ suc (length xs)
  length-put [] x = refl
  length-put (y ∷ ys) x = at (cmp x y) (length-put ys x)
    where
      at : (o : Ordering) → length (put_by cmp ys x) ≡ suc (length ys) → length (match_ordering o (x ∷ y ∷ ys) (y ∷ put_by cmp ys x) (y ∷ put_by cmp ys x)) ≡ suc (suc (length ys))
      at Less e = refl
      at Equal e = ap (λ n. suc n) e
      at Greater e = ap (λ n. suc n) e

  length-all : (acc xs : List A) → length (fold (put_by cmp) acc xs) ≡ length acc + length xs
  length-all acc [] = omega arith
  length-all acc (x ∷ xs) = omega (arith, length-all (put_by cmp acc x) xs, length-put acc x)

  pub length-sorted : (xs : List A) → length (sorted_by cmp xs) ≡ length xs
  length-sorted xs = omega (arith, length-all [] xs)

  -- ---- the first so many

  -- what stands behind the first so many is never among them
  pub take_put : (n : ℕ) (ys : List A) (x : A) → take n (put_by cmp (take n ys) x) ≡ take n (put_by cmp ys x)
  take_put zero ys x = refl
  take_put (suc n) [] x = refl
  take_put (suc n) (y ∷ ys) x = at (cmp x y) (take_put n ys x)
    where
      front : (n : ℕ) → take n (y ∷ take n ys) ≡ take n (y ∷ ys)
      front zero = refl
      front (suc m) = ap (λ l. y ∷ l) (take-take m (suc m) ys (omega arith))

      at : (o : Ordering) → take n (put_by cmp (take n ys) x) ≡ take n (put_by cmp ys x)
          → take (suc n) (match_ordering o (x ∷ y ∷ take n ys) (y ∷ put_by cmp (take n ys) x) (y ∷ put_by cmp (take n ys) x))
          ≡ take (suc n) (match_ordering o (x ∷ y ∷ ys) (y ∷ put_by cmp ys x) (y ∷ put_by cmp ys x))
      at Less e = ap (λ l. x ∷ l) (front n)
      at Equal e = ap (λ l. y ∷ l) e
      at Greater e = ap (λ l. y ∷ l) e

  pub sorted_more : (xs : List A) (x : A) → sorted_by cmp (xs ++ x ∷ []) ≡ put_by cmp (sorted_by cmp xs) x
  sorted_more xs x = fold-append (put_by cmp) [] xs (x ∷ [])

  module _ (total : IsTotalOrder cmp) where
    rises_take : (n : ℕ) (xs : List A) → Rises cmp total xs → Rises cmp total (take n xs)
    rises_take zero xs up = tt
    rises_take (suc n) [] up = tt
    rises_take (suc n) (x ∷ xs) up = (all_take (λ y. is_lt (cmp y x) ≡ false) n xs up.0, rises_take n xs up.1)

    pub rises_first : (n : ℕ) (xs : List A) → Rises cmp total (take n (sorted_by cmp xs))
    rises_first n xs = rises_take n (sorted_by cmp xs) (rises_all cmp total [] xs tt)

    sorted_same : (xs : List A) → Rises cmp total xs → sorted_by cmp xs ≡ xs
    sorted_same xs up = one_list cmp total (sorted_by cmp xs) xs (rises_all cmp total [] xs tt) up (λ q. ties_all cmp total q [] xs tt)

    -- the first of the first are those
    pub first_again : (n : ℕ) (xs : List A) → take n (sorted_by cmp (take n (sorted_by cmp xs))) ≡ take n (sorted_by cmp xs)
    first_again n xs =
        ap (take n) (sorted_same (take n (sorted_by cmp xs)) (rises_first n xs))
        ∙ take-take n n (sorted_by cmp xs) (omega arith)

    -- ---- where none of the first comes after a bound

    abbrev pub Low : A → A → Type 0
    Low bound y = is_lt (cmp bound y) ≡ false

    -- what isn't before the bound isn't before what the bound isn't before
    behind : (bound x y : A) → is_lt (cmp x bound) ≡ false → Low bound y → is_lt (cmp x y) ≡ false
    behind bound x y late low = at (cmp x y) refl
      where
        less_not : (o : Ordering) → o ≡ Less → is_lt o ≡ false → ⊥
        less_not o e f = cc

        below : (o : Ordering) → cmp bound x ≡ o → cmp x y ≡ Less → ⊥
        below Less e less = less_not (cmp bound y) (total.trans bound x y e less) low
        below Equal e less = less_not (cmp bound y) (total.congr bound x y e ∙ less) low
        below Greater e less = less_not (cmp x bound) (total.antisymm x bound ∙ ap ordering_reverse e) late

        at : (o : Ordering) → cmp x y ≡ o → is_lt o ≡ false
        at Less e = absurd (below (cmp bound x) refl e)
        at Equal e = refl
        at Greater e = refl

    -- a later one changes none of the first
    pub put_behind : (bound x : A) (n : ℕ) (ys : List A) → n ≤ length ys → AllByRecursion (Low bound) (take n ys) → is_lt (cmp x bound) ≡ false → take n (put_by cmp ys x) ≡ take n ys
    put_behind bound x zero ys full low late = refl
    put_behind bound x (suc n) [] full low late = absurd (omega arith)
    put_behind bound x (suc n) (y ∷ ys) full low late = at (cmp x y) (behind bound x y late low.0) (put_behind bound x n ys (omega arith) low.1 late)
      where
        at : (o : Ordering) → is_lt o ≡ false → take n (put_by cmp ys x) ≡ take n ys → take (suc n) (match_ordering o (x ∷ y ∷ ys) (y ∷ put_by cmp ys x) (y ∷ put_by cmp ys x)) ≡ y ∷ take n ys
        at Less f e = absurd (no f)
          where
            no : true ≡ false → ⊥
            no e = cc
        at Equal f e = ap (λ l. y ∷ l) e
        at Greater f e = ap (λ l. y ∷ l) e

    -- nor does an earlier one come after the bound
    pub low_put : (bound x : A) (n : ℕ) (ys : List A) → AllByRecursion (Low bound) (take n ys) → is_lt (cmp x bound) ≡ true → AllByRecursion (Low bound) (take n (put_by cmp ys x))
    low_put bound x n ys low early = at n ys low
      where
        here : Low bound x
        here = ap is_lt (total.antisymm bound x) ∙ reversed (cmp x bound) early
          where
            reversed : (o : Ordering) → is_lt o ≡ true → is_lt (ordering_reverse o) ≡ false
            reversed Less e = refl
            reversed Equal e = refl
            reversed Greater e = sym e

        nil : (n : ℕ) → AllByRecursion (Low bound) (take {A = A} n [])
        nil zero = tt
        nil (suc n) = tt

        put : (n : ℕ) (y : A) (ys : List A) (o : Ordering) → AllByRecursion (Low bound) (take (suc n) (y ∷ ys)) → AllByRecursion (Low bound) (take n (put_by cmp ys x)) → AllByRecursion (Low bound) (take (suc n) (match_ordering o (x ∷ y ∷ ys) (y ∷ put_by cmp ys x) (y ∷ put_by cmp ys x)))
        put n y ys Less low rest = (here, all_fewer (Low bound) n (y ∷ ys) low)
        put n y ys Equal low rest = (low.0, rest)
        put n y ys Greater low rest = (low.0, rest)

        at : (n : ℕ) (ys : List A) → AllByRecursion (Low bound) (take n ys) → AllByRecursion (Low bound) (take n (put_by cmp ys x))
        at zero ys low = tt
        at (suc n) [] low = (here, nil n)
        at (suc n) (y ∷ ys) low = put n y ys (cmp x y) low (at n ys low.1)

    -- the last of a list in order is a bound of it
    pub last_low : (ys : List A) (i : ℕ) (bound : A) → Rises cmp total ys → suc i ≡ length ys → slice_get ys i ≡ Some bound → AllByRecursion (Low bound) ys
    last_low [] i bound up last at = absurd (omega arith)
    last_low (y ∷ []) zero bound up last at =
        let same : y ≡ bound = cc in
        (ap (λ z. is_lt (cmp bound z)) same ∙ ap is_lt (tied_itself total bound), tt)
    last_low (y ∷ z ∷ zs) zero bound up last at = absurd (omega arith)
    last_low (y ∷ ys) (suc i) bound up last at = (
      all_at (λ v. is_lt (cmp v y) ≡ false) ys i bound up.0 at,
      last_low ys i bound up.1 (omega arith) at,
    )

    pub last_bounds : (ys : List A) (bound : A) → Rises cmp total ys → slice_get ys (length ys - 1) ≡ Some bound → AllByRecursion (Low bound) ys
    last_bounds [] bound up last = tt
    last_bounds (y ∷ ys) bound up last = last_low (y ∷ ys) (length (y ∷ ys) - 1) bound up (omega arith) last

-- A list in order whose elements that tie stand as they stood before is the only one.
use Rattle.std.proofs.Common.{◌≡◌, ◌+◌, suc, Bool, true, false, cond, List, [], ◌∷◌, ◌++◌, get_or, fold, filter, not, ◌&&◌, Ordering, Less, Equal, Greater, refl, ap, sym, subst, ◌∙◌, arith, append_assoc}
use lib.ListN.{replicate}
use Rattle.std.specs.List.{AllByRecursion, count_by}
use Rattle.std.specs.List.Sorted.{IsPermutation, IsSorted, IsStable, ties}
use Rattle.std.specs.Ordering.{is_eq, is_lt, ordering_reverse, match_ordering}
use Rattle.std.specs.Cmp.{IsTotalOrder}
use Rattle.std.proofs.lemmas.Cmp.{tied_itself}
use Rattle.std.proofs.lemmas.List.Elements.{recursion_from_All}
use Rattle.std.proofs.lemmas.List.Sums.{sum_by-cons}
use Rattle.std.proofs.lemmas.List.Sorted.{ranks_by, sorted_far, sum_by-IsPermutation}
use Rattle.ht_lists.specs.Sorted.{put_by, sorted_by}

module _ {A : Type 0} (cmp : A → A → Ordering) (total : IsTotalOrder cmp) where
  abbrev tie : A → A → Bool
  tie x y = ties (λ a b. is_lt (cmp a b)) x y

  tie_is : (x y : A) → tie x y ≡ is_eq (cmp x y)
  tie_is x y = at (cmp x y) (cmp y x) (total.antisymm y x)
    where
      at : (o p : Ordering) → p ≡ ordering_reverse o → (not (is_lt o) && not (is_lt p)) ≡ is_eq o
      at Less p e = refl
      at Equal p e = rw e refl
      at Greater p e = rw e refl

  equal_is : (x y : A) → tie x y ≡ true → cmp x y ≡ Equal
  equal_is x y t = at (cmp x y) (sym (tie_is x y) ∙ t)
    where
      at : (o : Ordering) → is_eq o ≡ true → o ≡ Equal
      at Less e = cc
      at Equal e = refl
      at Greater e = cc

  tie_of : (x y : A) → cmp x y ≡ Equal → tie x y ≡ true
  tie_of x y e = tie_is x y ∙ ap is_eq e

  itself : (x : A) → tie x x ≡ true
  itself x = tie_of x x (tied_itself total x)

  -- none stands behind one that comes after it
  abbrev pub Rises : List A → Type 0
  Rises [] = Unit {0}
  Rises (x ∷ xs) = AllByRecursion (λ y. is_lt (cmp y x) ≡ false) xs × Rises xs

  pub rises_from : (xs : List A) → IsSorted cmp xs → Rises xs
  rises_from [] up = tt
  rises_from (x ∷ xs) up = (
    recursion_from_All (λ y. is_lt (cmp y x) ≡ false) xs (λ k d low. sorted_far (λ a b. is_lt (cmp a b)) (ranks_by total (λ a. a)) (x ∷ xs) up 0 (suc k) d (omega arith) (omega arith)),
    rises_from xs (shifted x xs up),
  )
    where
      shifted : (x : A) (xs : List A) → IsSorted cmp (x ∷ xs) → IsSorted cmp xs
      shifted x xs up k d low high =
          let more : suc k + 1 ≡ suc (k + 1) = omega arith in
          subst (λ n. is_lt (cmp (get_or (x ∷ xs) n d) (get_or xs k d)) ≡ false) more (up (suc k) d (omega arith) (omega arith))

  -- ---- two lists in order with the same elements

  least_in : (q y : A) (ys : List A) (a : A) (others : List A) → AllByRecursion (λ w. is_lt (cmp w y) ≡ false) ys → filter (tie q) ys ≡ a ∷ others → is_lt (cmp q y) ≡ false
  least_in q y [] a others all is = absurd (no is)
    where
      no : [] ≡ a ∷ others → ⊥
      no e = cc
  least_in q y (w ∷ ws) a others all is = at (λ f. least_in q y ws a others all.1 f) (tie q w) refl is
    where
      at : (filter (tie q) ws ≡ a ∷ others → is_lt (cmp q y) ≡ false) → (b : Bool) → tie q w ≡ b → cond b (w ∷ filter (tie q) ws) (filter (tie q) ws) ≡ a ∷ others → is_lt (cmp q y) ≡ false
      at more true e f = ap is_lt (total.congr q w y (equal_is q w e)) ∙ all.0
      at more false e f = more f

  kept : (q x : A) (xs : List A) → tie q x ≡ true → filter (tie q) (x ∷ xs) ≡ x ∷ filter (tie q) xs
  kept q x xs e = ap (λ b. cond b (x ∷ filter (tie q) xs) (filter (tie q) xs)) e

  -- its first is not after an element that the other has
  first_least : (q y : A) (ys zs : List A) (z : A) → Rises (y ∷ ys) → tie q z ≡ true → filter (tie q) (y ∷ ys) ≡ filter (tie q) (z ∷ zs) → is_lt (cmp q y) ≡ false
  first_least q y ys zs z up t e = least_in q y (y ∷ ys) z (filter (tie q) zs) (ap is_lt (tied_itself total y), up.0) (e ∙ kept q z zs t)

  both_not : (a b : Bool) → a ≡ false → b ≡ false → (not a && not b) ≡ true
  both_not a b e f = rw (e, f) refl

  pub one_list : (xs ys : List A) → Rises xs → Rises ys → ((q : A) → filter (tie q) xs ≡ filter (tie q) ys) → xs ≡ ys
  one_list [] [] a b h = refl
  one_list [] (y ∷ ys) a b h = absurd (no (h y ∙ kept y y ys (itself y)))
    where
      no : [] ≡ y ∷ filter (tie y) ys → ⊥
      no e = cc
  one_list (x ∷ xs) [] a b h = absurd (no (sym (h x) ∙ kept x x xs (itself x)))
    where
      no : [] ≡ x ∷ filter (tie x) xs → ⊥
      no e = cc
  one_list (x ∷ xs) (y ∷ ys) a b h =
      let below : is_lt (cmp y x) ≡ false = first_least y x xs ys y a (itself y) (h y) in
      let above : is_lt (cmp x y) ≡ false = first_least x y ys xs x b (itself x) (sym (h x)) in
      let tied : tie x y ≡ true = both_not (is_lt (cmp x y)) (is_lt (cmp y x)) above below in
      let same : x ∷ filter (tie x) xs ≡ y ∷ filter (tie x) ys = sym (kept x x xs (itself x)) ∙ h x ∙ kept x y ys tied in
      let first : x ≡ y = cc in
      let rest : xs ≡ ys = one_list xs ys a.1 b.1 (λ q. tail q first (tie q x) refl) in
      ap (λ z. z ∷ xs) first ∙ ap (λ zs. y ∷ zs) rest
    where
      tail : (q : A) → x ≡ y → (c : Bool) → tie q x ≡ c → filter (tie q) xs ≡ filter (tie q) ys
      tail q first c is = off c (subst (λ z. cond c (x ∷ filter (tie q) xs) (filter (tie q) xs) ≡ cond c (z ∷ filter (tie q) ys) (filter (tie q) ys)) (sym first) (
          ap (λ d. cond d (x ∷ filter (tie q) xs) (filter (tie q) xs)) (sym is) ∙ h q ∙ ap (λ d. cond d (y ∷ filter (tie q) ys) (filter (tie q) ys)) (ap (tie q) (sym first) ∙ is)))
        where
          off : (d : Bool) → cond d (x ∷ filter (tie q) xs) (filter (tie q) xs) ≡ cond d (x ∷ filter (tie q) ys) (filter (tie q) ys) → filter (tie q) xs ≡ filter (tie q) ys
          off true e = cc
          off false e = e

  -- ---- putting one in its place

  low_put : (y x : A) (ys : List A) → is_lt (cmp x y) ≡ false → AllByRecursion (λ w. is_lt (cmp w y) ≡ false) ys → AllByRecursion (λ w. is_lt (cmp w y) ≡ false) (put_by cmp ys x)
  low_put y x [] l a = (l, tt)
  low_put y x (w ∷ ws) l a = at (low_put y x ws l a.1) (cmp x w)
    where
      at : AllByRecursion (λ w. is_lt (cmp w y) ≡ false) (put_by cmp ws x) → (o : Ordering) → AllByRecursion (λ w. is_lt (cmp w y) ≡ false) (match_ordering o (x ∷ w ∷ ws) (w ∷ put_by cmp ws x) (w ∷ put_by cmp ws x))
      at more Less = (l, a)
      at more Equal = (a.0, more)
      at more Greater = (a.0, more)

  -- what isn't before the second is not before the first, where the first is before the second
  not_before : (x y z : A) → cmp x y ≡ Less → is_lt (cmp z y) ≡ false → is_lt (cmp z x) ≡ false
  not_before x y z less late = at (cmp z x) refl
    where
      at : (o : Ordering) → cmp z x ≡ o → is_lt o ≡ false
      at Less e = sym (ap is_lt (total.trans z x y e less)) ∙ late
      at Equal e = refl
      at Greater e = refl

  all_not_before : (x y : A) (ys : List A) → cmp x y ≡ Less → AllByRecursion (λ z. is_lt (cmp z y) ≡ false) ys → AllByRecursion (λ z. is_lt (cmp z x) ≡ false) ys
  all_not_before x y [] l a = tt
  all_not_before x y (z ∷ zs) l a = (not_before x y z l a.0, all_not_before x y zs l a.1)

  later : (x y : A) → cmp x y ≡ Less → is_lt (cmp y x) ≡ false
  later x y e = ap is_lt (total.antisymm y x ∙ ap ordering_reverse e)

  rises_put : (xs : List A) (x : A) → Rises xs → Rises (put_by cmp xs x)
  rises_put [] x up = (tt, tt)
  rises_put (y ∷ ys) x up = at (rises_put ys x up.1) (cmp x y) refl
    where
      at : Rises (put_by cmp ys x) → (o : Ordering) → cmp x y ≡ o → Rises (match_ordering o (x ∷ y ∷ ys) (y ∷ put_by cmp ys x) (y ∷ put_by cmp ys x))
      at more Less e = ((later x y e, all_not_before x y ys e up.0), up)
      at more Equal e = (low_put y x ys (ap is_lt e) up.0, more)
      at more Greater e = (low_put y x ys (ap is_lt e) up.0, more)

  -- none of what stands behind a later one ties with an earlier
  none_ties : (q y : A) (ys : List A) → cmp q y ≡ Less → AllByRecursion (λ z. is_lt (cmp z y) ≡ false) ys → filter (tie q) ys ≡ []
  none_ties q y [] l a = refl
  none_ties q y (z ∷ zs) l a = at (none_ties q y zs l a.1) (tie q z) refl
    where
      at : filter (tie q) zs ≡ [] → (b : Bool) → tie q z ≡ b → filter (tie q) (z ∷ zs) ≡ []
      at more true e =
          let less : cmp z y ≡ Less = sym (total.congr q z y (equal_is q z e)) ∙ l in
          absurd (no (sym (ap is_lt less) ∙ a.0))
        where
          no : true ≡ false → ⊥
          no e = cc
      at more false e = ap (λ b. cond b (z ∷ filter (tie q) zs) (filter (tie q) zs)) e ∙ more

  ties_put : (q x : A) (xs : List A) → Rises xs → filter (tie q) (put_by cmp xs x) ≡ filter (tie q) xs ++ filter (tie q) (x ∷ [])
  ties_put q x [] up = refl
  ties_put q x (y ∷ ys) up = at (ties_put q x ys up.1) (cmp x y) refl
    where
      more : (b : Bool) → filter (tie q) (put_by cmp ys x) ≡ filter (tie q) ys ++ filter (tie q) (x ∷ []) → cond b (y ∷ filter (tie q) (put_by cmp ys x)) (filter (tie q) (put_by cmp ys x)) ≡ cond b (y ∷ filter (tie q) ys) (filter (tie q) ys) ++ filter (tie q) (x ∷ [])
      more true e = ap (λ zs. y ∷ zs) e
      more false e = e

      front : cmp x y ≡ Less → (b : Bool) → tie q x ≡ b → cond b (x ∷ filter (tie q) (y ∷ ys)) (filter (tie q) (y ∷ ys)) ≡ filter (tie q) (y ∷ ys) ++ cond b (x ∷ []) []
      front less true e =
          let none : filter (tie q) (y ∷ ys) ≡ [] = none_ties q y (y ∷ ys) (total.congr q x y (equal_is q x e) ∙ less) (ap is_lt (tied_itself total y), up.0) in
          rw none refl
      front less false e = sym (append_nil (filter (tie q) (y ∷ ys)))
        where
          append_nil : (zs : List A) → zs ++ [] ≡ zs
          append_nil [] = refl
          append_nil (z ∷ zs) = ap (λ l. z ∷ l) (append_nil zs)

      at : filter (tie q) (put_by cmp ys x) ≡ filter (tie q) ys ++ filter (tie q) (x ∷ []) → (o : Ordering) → cmp x y ≡ o → filter (tie q) (match_ordering o (x ∷ y ∷ ys) (y ∷ put_by cmp ys x) (y ∷ put_by cmp ys x)) ≡ filter (tie q) (y ∷ ys) ++ filter (tie q) (x ∷ [])
      at rest Less e = front e (tie q x) refl
      at rest Equal e = more (tie q y) rest
      at rest Greater e = more (tie q y) rest

  pub rises_all : (acc xs : List A) → Rises acc → Rises (fold (put_by cmp) acc xs)
  rises_all acc [] up = up
  rises_all acc (x ∷ xs) up = rises_all (put_by cmp acc x) xs (rises_put acc x up)

  pub ties_all : (q : A) (acc xs : List A) → Rises acc → filter (tie q) (fold (put_by cmp) acc xs) ≡ filter (tie q) acc ++ filter (tie q) xs
  ties_all q acc [] up = sym (append_nil (filter (tie q) acc))
    where
      append_nil : (zs : List A) → zs ++ [] ≡ zs
      append_nil [] = refl
      append_nil (z ∷ zs) = ap (λ l. z ∷ l) (append_nil zs)
  ties_all q acc (x ∷ xs) up =
      ties_all q (put_by cmp acc x) xs (rises_put acc x up)
      ∙ ap (λ l. l ++ filter (tie q) xs) (ties_put q x acc up)
      ∙ append_assoc (filter (tie q) acc) (filter (tie q) (x ∷ [])) (filter (tie q) xs)
      ∙ ap (λ l. filter (tie q) acc ++ l) (joined (tie q x))
    where
      joined : (b : Bool) → cond b (x ∷ []) [] ++ filter (tie q) xs ≡ cond b (x ∷ filter (tie q) xs) (filter (tie q) xs)
      joined true = refl
      joined false = refl

  -- what a stable sort leaves
  pub sorted_is : (xs ys : List A) → IsSorted cmp ys → IsStable cmp xs ys → ys ≡ sorted_by cmp xs
  sorted_is xs ys sorted stable = one_list ys (sorted_by cmp xs) (rises_from ys sorted) (rises_all [] xs tt) (λ q. stable q ∙ sym (ties_all q [] xs tt))

  -- ---- where only what is equal ties, any sort is stable

  module _ (exact : (x y : A) → cmp x y ≡ Equal → x ≡ y) where
    alike : (q : A) (xs : List A) → filter (tie q) xs ≡ replicate (count_by (tie q) xs) q
    alike q [] = refl
    alike q (x ∷ xs) = at (alike q xs) (tie q x) refl ∙ ap (λ n. replicate n q) (sym (sum_by-cons (λ z. cond (tie q z) 1 0) x xs))
      where
        at : filter (tie q) xs ≡ replicate (count_by (tie q) xs) q → (b : Bool) → tie q x ≡ b → cond b (x ∷ filter (tie q) xs) (filter (tie q) xs) ≡ replicate (cond b 1 0 + count_by (tie q) xs) q
        at rest true e =
            let more : 1 + count_by (tie q) xs ≡ suc (count_by (tie q) xs) = omega arith in
            ap (λ (z : A). z ∷ filter (tie q) xs) (sym (exact q x (equal_is q x e))) ∙ ap (λ l. q ∷ l) rest ∙ ap (λ k. replicate k q) (sym more)
        at rest false e =
            let more : 0 + count_by (tie q) xs ≡ count_by (tie q) xs = omega arith in
            rest ∙ ap (λ k. replicate k q) (sym more)

    pub unstable_is : (xs ys : List A) → IsSorted cmp ys → IsPermutation xs ys → ys ≡ sorted_by cmp xs
    unstable_is xs ys sorted moved = sorted_is xs ys sorted (λ q. alike q ys ∙ ap (λ n. replicate n q) (sum_by-IsPermutation (λ x. cond (tie q x) 1 0) xs ys moved) ∙ sym (alike q xs))

-- Lists in the order of keys: where a binary search finds a key, and what stands there.
use Rattle.std.proofs.Common.{◌≡◌, ◌≢◌, ℕ, ◌<◌, ◌≤◌, zero, suc, Bool, true, false, cond, List, [], ◌∷◌, ◌++◌, length, get_or, filter, insert, slice_get, slice_set, HoldsAt, Option, None, Some, Result, Ok, Err, Ordering, Less, Equal, Greater, refl, ap, sym, ◌∙◌, arith}
use Rattle.std.specs.List.{AllByRecursion, AllWithin}
use Rattle.std.specs.List.Sorted.{IsBinarySearchResult, IsNonDecreasingBy, IsSearchInRange}
use Rattle.std.specs.Ordering.{is_eq, is_gt, is_lt, ordering_index, ordering_reverse}
use Rattle.std.specs.Cmp.{IsTotalOrder}
use Rattle.ht_base.specs.Ordered.{AscendBy, found_by, placed_by}

-- ---- what holds of each element

module _ {A : Type 0} (P : A → Type 0) where
  each_append : (xs ys : List A) → AllByRecursion P xs → AllByRecursion P ys → AllByRecursion P (xs ++ ys)
  each_append [] ys a b = b
  each_append (x ∷ xs) ys a b = (a.0, each_append xs ys a.1 b)

  each_filter : (test : A → Bool) (xs : List A) → AllByRecursion P xs → AllByRecursion P (filter test xs)
  each_filter test [] a = tt
  each_filter test (x ∷ xs) a = at (test x) refl (each_filter test xs a.1)
    where
      at : (b : Bool) → test x ≡ b → AllByRecursion P (filter test xs) → AllByRecursion P (filter test (x ∷ xs))
      at true is rest = rw is (a.0, rest)
      at false is rest = rw is rest

  each_at : (xs : List A) (i : ℕ) (d : A) → AllByRecursion P xs → i < length xs → P (get_or xs i d)
  each_at [] i d a low = absurd (omega arith)
  each_at (x ∷ xs) zero d a low = a.0
  each_at (x ∷ xs) (suc i) d a low = each_at xs i d a.1 (omega arith)

  -- it holds once another is in its place, if it holds of that
  pub each_placed : (order : A → Ordering) (x : A) (xs : List A) → P x → AllByRecursion P xs → AllByRecursion P (placed_by order x xs)
  each_placed order x xs p a =
      let before : A → Bool = λ y. is_lt (order y) in
      let behind : A → Bool = λ y. is_gt (order y) in
      each_append (filter before xs) (x ∷ filter behind xs) (each_filter before xs a) (p, each_filter behind xs a)

-- ---- where all stand behind a place

module _ {A : Type 0} (order : A → Ordering) where
  none_before : (xs : List A) → AllByRecursion (λ y. order y ≡ Greater) xs → filter (λ y. is_lt (order y)) xs ≡ []
  none_before [] a = refl
  none_before (x ∷ xs) a = rw a.0 (none_before xs a.1)

  all_behind : (xs : List A) → AllByRecursion (λ y. order y ≡ Greater) xs → filter (λ y. is_gt (order y)) xs ≡ xs
  all_behind [] a = refl
  all_behind (x ∷ xs) a = rw a.0 (ap (λ ys. x ∷ ys) (all_behind xs a.1))

  none_found : (xs : List A) → AllByRecursion (λ y. order y ≡ Greater) xs → found_by order xs ≡ None
  none_found [] a = refl
  none_found (x ∷ xs) a = rw a.0 (none_found xs a.1)

  -- The one in the place is found: what stands before it isn't in it.
  before_found : (x : A) (xs behind : List A) → order x ≡ Equal → found_by order (filter (λ z. is_lt (order z)) xs ++ x ∷ behind) ≡ Some x
  before_found x [] behind here = rw here refl
  before_found x (y ∷ ys) behind here = at (order y) refl (before_found x ys behind here)
    where
      at : (o : Ordering) → order y ≡ o → found_by order (filter (λ z. is_lt (order z)) ys ++ x ∷ behind) ≡ Some x → found_by order (filter (λ z. is_lt (order z)) (y ∷ ys) ++ x ∷ behind) ≡ Some x
      at Less is rest = rw (is, is) rest
      at Equal is rest = rw is rest
      at Greater is rest = rw is rest

  pub found_placed : (x : A) (xs : List A) → order x ≡ Equal → found_by order (placed_by order x xs) ≡ Some x
  found_placed x xs here = before_found x xs (filter (λ z. is_gt (order z)) xs) here

-- ---- in a list that ascends by keys

module _ {A K : Type 0} (key : A → K) (cmp : K → K → Ordering) (total : IsTotalOrder cmp) (k : K) where
  -- what stands behind an element that isn't before the key is behind the key
  key_before : (x y : A) → cmp (key x) k ≢ Less → cmp (key x) (key y) ≡ Less → cmp k (key y) ≡ Less
  key_before x y late less = at (cmp (key x) k) refl
    where
      at : (o : Ordering) → cmp (key x) k ≡ o → cmp k (key y) ≡ Less
      at Less is = absurd (late is)
      at Equal is = sym (total.congr (key x) k (key y) is) ∙ less
      at Greater is = total.trans k (key x) (key y) (total.antisymm k (key x) ∙ ap ordering_reverse is) less

  behind_key : (x y : A) → cmp (key x) k ≢ Less → cmp (key x) (key y) ≡ Less → cmp (key y) k ≡ Greater
  behind_key x y late less = total.antisymm (key y) k ∙ ap ordering_reverse (key_before x y late less)

  all_behind_key : (x : A) (xs : List A) → cmp (key x) k ≢ Less → AllByRecursion (λ y. cmp (key x) (key y) ≡ Less) xs → AllByRecursion (λ y. cmp (key y) k ≡ Greater) xs
  all_behind_key x [] late a = tt
  all_behind_key x (y ∷ xs) late a = (behind_key x y late a.0, all_behind_key x xs late a.1)

  -- the places of a list in order only rise
  rises : (xs : List A) → AscendBy (λ x y. cmp (key x) (key y)) xs → IsNonDecreasingBy (λ y. ordering_index (cmp (key y) k)) xs
  rises [] up i j d low within = absurd (omega arith)
  rises (x ∷ xs) up zero zero d low within = omega arith
  rises (x ∷ xs) up (suc i) zero d low within = absurd (omega arith)
  rises (x ∷ xs) up (suc i) (suc j) d low within = rises xs up.1 i j d (omega arith) (omega arith)
  rises (x ∷ xs) up zero (suc j) d low within = at (cmp (key x) k) refl
    where
      late : cmp (key x) k ≢ Less → cmp (key (get_or xs j d)) k ≡ Greater
      late apart = each_at (λ y. cmp (key y) k ≡ Greater) xs j d (all_behind_key x xs apart up.0) (omega arith)

      at : (o : Ordering) → cmp (key x) k ≡ o → ordering_index (cmp (key x) k) ≤ ordering_index (cmp (key (get_or xs j d)) k)
      at Less is = rw is (omega arith)
      at Equal is = let last : cmp (key (get_or xs j d)) k ≡ Greater = late (λ e. cc) in rw (is, last) (omega arith)
      at Greater is = let last : cmp (key (get_or xs j d)) k ≡ Greater = late (λ e. cc) in rw (is, last) (omega arith)

  -- An element with the key is the one that is found, and another that takes its place is put there.
  pub record IsThere (xs : List A) (i : ℕ) : Type 0 where
    pub within : i < length xs
    pub found : slice_get xs i ≡ found_by (λ y. cmp (key y) k) xs
    pub replaced : (x : A) → slice_set xs i x ≡ placed_by (λ y. cmp (key y) k) x xs

  -- None has the key, and one that is inserted at its place is put there.
  pub record IsGap (xs : List A) (i : ℕ) : Type 0 where
    pub within : i ≤ length xs
    pub none : found_by (λ y. cmp (key y) k) xs ≡ None
    pub inserted : (x : A) → insert xs i x ≡ placed_by (λ y. cmp (key y) k) x xs

  there : (xs : List A) (i : ℕ) → AscendBy (λ x y. cmp (key x) (key y)) xs → i < length xs → HoldsAt (λ y. cmp (key y) k ≡ Equal) xs i → IsThere xs i
  there [] i up low here = absurd (omega arith)
  there (x ∷ xs) zero up low here =
      let same : cmp (key x) k ≡ Equal = here x in
      let after = all_behind_key x xs (λ e. cc) up.0 in
      record {
        within = low;
        found = rw same refl;
        replaced = λ y. rw (same, none_before (λ z. cmp (key z) k) xs after, all_behind (λ z. cmp (key z) k) xs after) refl;
      }
  there (x ∷ xs) (suc i) up low here = at (cmp (key x) k) refl (there xs i up.1 (omega arith) (λ d. here d))
    where
      late : cmp (key x) k ≢ Less → IsThere (x ∷ xs) (suc i)
      late apart =
          let last : cmp (key (get_or xs i x)) k ≡ Greater = each_at (λ y. cmp (key y) k ≡ Greater) xs i x (all_behind_key x xs apart up.0) (omega arith) in
          let same : cmp (key (get_or xs i x)) k ≡ Equal = here x in
          absurd cc

      at : (o : Ordering) → cmp (key x) k ≡ o → IsThere xs i → IsThere (x ∷ xs) (suc i)
      at Less is rest = record { within = low; found = rw is rest.found; replaced = λ y. rw is (ap (λ ys. x ∷ ys) (rest.replaced y)) }
      at Equal is rest = late (λ e. cc)
      at Greater is rest = late (λ e. cc)

  gap : (xs : List A) (i : ℕ) → AscendBy (λ x y. cmp (key x) (key y)) xs → i ≤ length xs → AllWithin (λ y. cmp (key y) k ≡ Less) xs 0 i → AllWithin (λ y. cmp (key y) k ≡ Greater) xs i (length xs) → IsGap xs i
  gap [] zero up low before after = record { within = low; none = refl; inserted = λ y. refl }
  gap [] (suc i) up low before after = absurd (omega arith)
  gap (x ∷ xs) zero up low before after =
      let first : cmp (key x) k ≡ Greater = after 0 x (omega arith) (omega arith) in
      let rest = all_behind_key x xs (λ e. cc) up.0 in
      record {
        within = low;
        none = rw first (none_found (λ z. cmp (key z) k) xs rest);
        inserted = λ y. rw (first, none_before (λ z. cmp (key z) k) xs rest, all_behind (λ z. cmp (key z) k) xs rest) refl;
      }
  gap (x ∷ xs) (suc i) up low before after =
      let first : cmp (key x) k ≡ Less = before 0 x (omega arith) (omega arith) in
      let rest = gap xs i up.1 (omega arith) (λ j d from to. before (suc j) d (omega arith) (omega arith)) (λ j d from to. after (suc j) d (omega arith) (omega arith)) in
      record { within = low; none = rw first rest.none; inserted = λ y. rw first (ap (λ ys. x ∷ ys) (rest.inserted y)) }

  -- what a binary search for the key answers
  abbrev pub Finds : List A → Result ℕ ℕ → Type 0
  Finds xs (Ok i) = IsThere xs i
  Finds xs (Err i) = IsGap xs i

  pub searched_by : (xs : List A) (r : Result ℕ ℕ) → AscendBy (λ x y. cmp (key x) (key y)) xs → IsSearchInRange r (length xs) → IsBinarySearchResult (λ y. cmp (key y) k) xs r → Finds xs r
  searched_by xs (Ok i) up within at = there xs i up within at
  searched_by xs (Err i) up within parted = let sides = parted (rises xs up) in gap xs i up within sides.0 sides.1

  -- in its place, an element with the key keeps the order
  pub ascend_placed : (x : A) (xs : List A) → key x ≡ k → AscendBy (λ y z. cmp (key y) (key z)) xs → AscendBy (λ y z. cmp (key y) (key z)) (placed_by (λ y. cmp (key y) k) x xs)
  ascend_placed x [] same up = (tt, tt)
  ascend_placed x (y ∷ ys) same up = at (cmp (key y) k) refl (ascend_placed x ys same up.1)
    where
      first : (zs : List A) → cmp (key y) k ≢ Less → AllByRecursion (λ z. cmp (key y) (key z) ≡ Less) zs → AllByRecursion (λ z. cmp (key x) (key z) ≡ Less) zs
      first [] late a = tt
      first (z ∷ zs) late a = (rw same (key_before y z late a.0), first zs late a.1)

      at : (o : Ordering) → cmp (key y) k ≡ o → AscendBy (λ y z. cmp (key y) (key z)) (placed_by (λ y. cmp (key y) k) x ys) → AscendBy (λ y z. cmp (key y) (key z)) (placed_by (λ y. cmp (key y) k) x (y ∷ ys))
      at Less is rest =
          let here : cmp (key y) (key x) ≡ Less = rw same is in
          rw is (each_placed (λ z. cmp (key y) (key z) ≡ Less) (λ z. cmp (key z) k) x ys here up.0, rest)
      at Equal is rest =
          let after = all_behind_key y ys (λ e. cc) up.0 in
          rw (is, none_before (λ z. cmp (key z) k) ys after, all_behind (λ z. cmp (key z) k) ys after) (first ys (λ e. cc) up.0, up.1)
      at Greater is rest =
          let after = all_behind_key y ys (λ e. cc) up.0 in
          let here : cmp (key x) (key y) ≡ Less = rw same (total.antisymm k (key y) ∙ ap ordering_reverse is) in
          rw (is, none_before (λ z. cmp (key z) k) ys after, all_behind (λ z. cmp (key z) k) ys after) ((here, first ys (λ e. cc) up.0), up)

  -- and what has another key is found as before
  pub other_found : (x : A) (xs : List A) (other : K) → key x ≡ k → cmp k other ≢ Equal → AscendBy (λ y z. cmp (key y) (key z)) xs → found_by (λ y. cmp (key y) other) (placed_by (λ y. cmp (key y) k) x xs) ≡ found_by (λ y. cmp (key y) other) xs
  other_found x [] other same apart up = passed (cmp (key x) other) refl
    where
      passed : (o : Ordering) → cmp (key x) other ≡ o → found_by (λ y. cmp (key y) other) (x ∷ []) ≡ None
      passed Less is = rw is refl
      passed Equal is = absurd (apart (rw same at is))
      passed Greater is = rw is refl
  other_found x (y ∷ ys) other same apart up = at (cmp (key y) k) refl (other_found x ys other same apart up.1)
    where
      passed : (z : A) (zs : List A) (o : Ordering) → cmp (key z) other ≡ o → cmp (key z) other ≢ Equal → found_by (λ w. cmp (key w) other) (z ∷ zs) ≡ found_by (λ w. cmp (key w) other) zs
      passed z zs Less is no_tie = rw is refl
      passed z zs Equal is no_tie = absurd (no_tie is)
      passed z zs Greater is no_tie = rw is refl

      new_apart : cmp (key x) other ≢ Equal
      new_apart e = apart (rw same at e)

      old_apart : cmp (key y) k ≡ Equal → cmp (key y) other ≢ Equal
      old_apart tie e = apart (sym (total.congr (key y) k other tie) ∙ e)

      behind : cmp (key y) k ≢ Less → AllByRecursion (λ z. cmp (key z) k ≡ Greater) ys
      behind late = all_behind_key y ys late up.0

      kept : (b : Bool) (found rest : Option A) → found ≡ rest → cond b (Some y) found ≡ cond b (Some y) rest
      kept true found rest e = refl
      kept false found rest e = e

      at : (o : Ordering) → cmp (key y) k ≡ o → found_by (λ z. cmp (key z) other) (placed_by (λ z. cmp (key z) k) x ys) ≡ found_by (λ z. cmp (key z) other) ys → found_by (λ z. cmp (key z) other) (placed_by (λ z. cmp (key z) k) x (y ∷ ys)) ≡ found_by (λ z. cmp (key z) other) (y ∷ ys)
      at Less is rest = rw is (kept (is_eq (cmp (key y) other)) (found_by (λ z. cmp (key z) other) (placed_by (λ z. cmp (key z) k) x ys)) (found_by (λ z. cmp (key z) other) ys) rest)
      at Equal is rest =
          let after = behind (λ e. cc) in
          rw (is, none_before (λ z. cmp (key z) k) ys after, all_behind (λ z. cmp (key z) k) ys after)
          (passed x ys (cmp (key x) other) refl new_apart ∙ sym (passed y ys (cmp (key y) other) refl (old_apart is)))
      at Greater is rest =
          let after = behind (λ e. cc) in
          rw (is, none_before (λ z. cmp (key z) k) ys after, all_behind (λ z. cmp (key z) k) ys after)
          (passed x (y ∷ ys) (cmp (key x) other) refl new_apart)

-- The first of those that are due by a moment.
use Rattle.std.proofs.Common.{◌≡◌, ◌<◌, ◌≤◌, ◌||◌, ℕ, Bool, true, false, if◌then◌else◌, List, [], ◌∷◌, None, Some, refl, sym, ap, subst, ◌∙◌, arith, leb-true, leb-false}
use Rattle.std.specs.Prelude.{filter, nat_le, slice_get}
use Rattle.std.specs.Ordering.{is_eq}
use Rattle.std.specs.List.{AllByRecursion}
use Rattle.std.specs.declared.cmp.Ordering.{Ordering}
use Rattle.std.specs.declared.cmp.Ordering.TheVariants.{Less, Equal, Greater}
use Rattle.ht_due.specs.declared.due.Due.{Due}
use Rattle.ht_due.specs.Dues.{Ascends, compare_dues, has}
use Rattle.ht_due.proofs.PublicLaws.{due_order, exact, itself}
use Rattle.ht_machine.proofs.Firsts.{no_earlier}

abbrev pub by_then : ℕ → List Due → List Due
by_then m xs = filter (λ d. nat_le d.at.0 m) xs

its_own : (x : Due) (xs : List Due) → has x (x ∷ xs) ≡ true
its_own x xs = ap (λ o. is_eq o || has x xs) (itself x)

behind_it : (x y : Due) (xs : List Due) → has x xs ≡ true → has x (y ∷ xs) ≡ true
behind_it x y xs h = ap (λ b. is_eq (compare_dues x y) || b) h ∙ always (is_eq (compare_dues x y))
  where
    always : (b : Bool) → (b || true) ≡ true
    always true = refl
    always false = refl

-- the first of an ascending list is the one before which none comes
pub first_is : (xs : List Due) (x : Due) → Ascends xs → has x xs ≡ true → ((y : Due) → has y xs ≡ true → compare_dues y x ≡ Less → ⊥) → slice_get xs 0 ≡ Some x
first_is [] x up h least = absurd cc
first_is (y ∷ ys) x up h least = go (compare_dues y x) refl
  where
    later : (zs : List Due) → AllByRecursion (λ z. compare_dues y z ≡ Less) zs → has x zs ≡ true → compare_dues y x ≡ Less
    later [] all there = absurd cc
    later (z ∷ zs) all there = at (compare_dues x z) refl there (λ h. later zs all.1 h)
      where
        at : (o : Ordering) → compare_dues x z ≡ o → (is_eq (compare_dues x z) || has x zs) ≡ true → (has x zs ≡ true → compare_dues y x ≡ Less) → compare_dues y x ≡ Less
        at Equal e there on = ap (λ (d : Due). compare_dues y d) (exact x z e) ∙ all.0
        at Less e there on = on (ap (λ o. is_eq o || has x zs) (sym e) ∙ there)
        at Greater e there on = on (ap (λ o. is_eq o || has x zs) (sym e) ∙ there)

    go : (o : Ordering) → compare_dues y x ≡ o → Some y ≡ Some x
    go Equal e = ap Some (exact y x e)
    go Less e = absurd (least y (its_own y ys) e)
    go Greater e = absurd (differ (compare_dues x y) refl h)
      where
        differ : (o : Ordering) → compare_dues x y ≡ o → (is_eq (compare_dues x y) || has x ys) ≡ true → ⊥
        differ Equal f there = let same : compare_dues y x ≡ Equal = ap (λ (d : Due). compare_dues y d) (exact x y f) ∙ itself y in cc
        differ Less f there = let before = later ys up.0 (ap (λ o. is_eq o || has x ys) (sym f) ∙ there) in cc
        differ Greater f there = let before = later ys up.0 (ap (λ o. is_eq o || has x ys) (sym f) ∙ there) in cc

-- it is the first of those by a moment too, if it is by then
pub first_by : (m : ℕ) (xs : List Due) (x : Due) → slice_get xs 0 ≡ Some x → x.at.0 ≤ m → slice_get (by_then m xs) 0 ≡ Some x
first_by m [] x at low = cc
first_by m (y ∷ ys) x at low =
    let same : y ≡ x = cc in
    let low_too : y.at.0 ≤ m = subst (λ (d : Due). d.at.0 ≤ m) (sym same) low in
    go (nat_le y.at.0 m) refl low_too
  where
    go : (b : Bool) → nat_le y.at.0 m ≡ b → y.at.0 ≤ m → slice_get (if nat_le y.at.0 m then y ∷ by_then m ys else by_then m ys) 0 ≡ Some x
    go true e low = rw e at
    go false e low = let high = leb-false y.at.0 m e in absurd (omega arith)

-- where none is, there is no first
pub none_by : (m : ℕ) (xs : List Due) → ((y : Due) → has y xs ≡ true → m < y.at.0) → slice_get (by_then m xs) 0 ≡ None
none_by m [] late = refl
none_by m (y ∷ ys) late = go (nat_le y.at.0 m) refl (none_by m ys (λ z h. late z (behind_it z y ys h)))
  where
    go : (b : Bool) → nat_le y.at.0 m ≡ b → slice_get (by_then m ys) 0 ≡ None → slice_get (if nat_le y.at.0 m then y ∷ by_then m ys else by_then m ys) 0 ≡ None
    go true e rest = let low = leb-true y.at.0 m e in let high = late y (its_own y ys) in absurd (omega arith)
    go false e rest = rw e rest

-- what is the first by a moment is the first, and is by then
pub record IsFirstBy (m : ℕ) (xs : List Due) (x : Due) : Type 0 where
  pub first : slice_get xs 0 ≡ Some x
  pub by : x.at.0 ≤ m

late_all : (m : ℕ) (y : Due) (ys : List Due) → m < y.at.0 → AllByRecursion (λ z. compare_dues y z ≡ Less) ys → slice_get (by_then m ys) 0 ≡ None
late_all m y [] late all = refl
late_all m y (z ∷ zs) late all = go (nat_le z.at.0 m) refl (late_all m y zs late all.1)
  where
    go : (b : Bool) → nat_le z.at.0 m ≡ b → slice_get (by_then m zs) 0 ≡ None → slice_get (if nat_le z.at.0 m then z ∷ by_then m zs else by_then m zs) 0 ≡ None
    go true e rest =
        let low = leb-true z.at.0 m e in
        let before = all.0 in
        let after : compare_dues z y ≡ Less → ⊥ = λ x. let back = due_order.antisymm z y in cc in
        let later = no_earlier z y after in
        absurd (omega arith)
    go false e rest = rw e rest

pub is_first_by : (m : ℕ) (xs : List Due) (x : Due) → Ascends xs → slice_get (by_then m xs) 0 ≡ Some x → IsFirstBy m xs x
is_first_by m [] x up at = cc
is_first_by m (y ∷ ys) x up at = go (nat_le y.at.0 m) refl at
  where
    go : (b : Bool) → nat_le y.at.0 m ≡ b → slice_get (if nat_le y.at.0 m then y ∷ by_then m ys else by_then m ys) 0 ≡ Some x → IsFirstBy m (y ∷ ys) x
    go true e at =
        let is : Some y ≡ Some x = ap (λ (b : Bool). slice_get (if b then y ∷ by_then m ys else by_then m ys) 0) (sym e) ∙ at in
        let same : y ≡ x = cc in
        record { first = is; by = subst (λ (d : Due). d.at.0 ≤ m) same (leb-true y.at.0 m e) }
    go false e at =
        let none = late_all m y ys (leb-false y.at.0 m e) up.0 in
        let is : slice_get (by_then m ys) 0 ≡ Some x = ap (λ (b : Bool). slice_get (if b then y ∷ by_then m ys else by_then m ys) 0) (sym e) ∙ at in
        absurd cc

-- Which dues are there once many came and went.
use Rattle.std.proofs.Common.{◌≡◌, ℕ, zero, suc, Bool, true, false, List, [], ◌∷◌, fold, take, Some, None, refl, ap, ◌∙◌, ◌||◌, ◌&&◌, not, ◌⊎◌, inl, inr}
use Rattle.std.specs.Prelude.{slice_get}
use Rattle.std.specs.List.{list_all}
use Rattle.std.specs.Ordering.{is_eq}
use Rattle.std.specs.declared.cmp.Ordering.{Ordering}
use Rattle.std.specs.declared.cmp.Ordering.TheVariants.{Less, Equal, Greater}
use Rattle.ht_due.specs.declared.due.Due.{Due}
use Rattle.ht_due.specs.Dues.{AreAbsent, AreNew, Ascends, compare_dues, has, merged, put_due, without}
use Rattle.ht_due.proofs.Ascending.{ascends_put, ascends_without, has_put, has_without}
use Rattle.ht_due.proofs.Order.{exact, flip, itself}
use Rattle.ht_due.proofs.Places.{before_at}

pub ascends_all_put : (xs ds : List Due) → Ascends xs → Ascends (fold put_due xs ds)
ascends_all_put xs [] a = a
ascends_all_put xs (d ∷ ds) a = ascends_all_put (put_due xs d) ds (ascends_put xs d a)

pub ascends_all_without : (xs ds : List Due) → Ascends xs → Ascends (fold without xs ds)
ascends_all_without xs [] a = a
ascends_all_without xs (d ∷ ds) a = ascends_all_without (without xs d) ds (ascends_without xs d a)

pub has_all_put : (q : Due) (xs ds : List Due) → has q (fold put_due xs ds) ≡ (has q ds || has q xs)
has_all_put q xs [] = refl
has_all_put q xs (d ∷ ds) = has_all_put q (put_due xs d) ds ∙ ap (λ b. has q ds || b) (has_put q xs d) ∙ turn (has q ds) (is_eq (compare_dues q d)) (has q xs)
  where
    turn : (a b c : Bool) → (a || (b || c)) ≡ ((b || a) || c)
    turn true true c = refl
    turn true false c = refl
    turn false true c = refl
    turn false false c = refl

pub has_all_without : (q : Due) (xs ds : List Due) → Ascends xs → has q (fold without xs ds) ≡ (not (has q ds) && has q xs)
has_all_without q xs [] a = refl
has_all_without q xs (d ∷ ds) a = has_all_without q (without xs d) ds (ascends_without xs d a) ∙ ap (λ b. not (has q ds) && b) (has_without q xs d a) ∙ turn (has q ds) (is_eq (compare_dues q d)) (has q xs)
  where
    turn : (a b c : Bool) → (not a && (not b && c)) ≡ (not (b || a) && c)
    turn true true c = refl
    turn true false c = refl
    turn false true c = refl
    turn false false c = refl

-- ---- many at once

-- one that is there is the first, or among the others
pub split : (q x : Due) (xs : List Due) → has q (x ∷ xs) ≡ true → (q ≡ x) ⊎ (has q xs ≡ true)
split q x xs h = at (compare_dues q x) refl h
  where
    at : (o : Ordering) → compare_dues q x ≡ o → (is_eq o || has q xs) ≡ true → (q ≡ x) ⊎ (has q xs ≡ true)
    at Less e t = inr t
    at Equal e t = inl (exact q x e)
    at Greater e t = inr t

pub ascends_merged : (dues gone news : List Due) → Ascends dues → Ascends (merged dues gone news)
ascends_merged dues gone news up = ascends_all_put (fold without dues gone) news (ascends_all_without dues gone up)

pub has_merged : (q : Due) (dues gone news : List Due) → Ascends dues → has q (merged dues gone news) ≡ (has q news || (not (has q gone) && has q dues))
has_merged q dues gone news up = has_all_put q (fold without dues gone) news ∙ ap (λ b. has q news || b) (has_all_without q dues gone up)

-- none of the new ones is there once those gone are out
pub absent_left : (dues gone news : List Due) → Ascends dues → AreNew news gone dues → AreAbsent news (fold without dues gone)
absent_left dues gone news up new q h = has_all_without q dues gone up ∙ at (has q gone) refl
  where
    at : (b : Bool) → has q gone ≡ b → (not b && has q dues) ≡ false
    at true e = refl
    at false e = new q h e

pub new_from_test : (news gone dues : List Due) → list_all (λ due. has due gone || not (has due dues)) news ≡ true → AreNew news gone dues
new_from_test [] gone dues all q h out = cc
new_from_test (x ∷ news) gone dues all q h out = elim (split q x news h) [
  | inl e ↦ not_there (has q gone) (has q dues) (ap (λ (d : Due). has d gone || not (has d dues)) e ∙ (both (has x gone || not (has x dues)) (list_all (λ due. has due gone || not (has due dues)) news) all).0) out
  | inr t ↦ new_from_test news gone dues (both (has x gone || not (has x dues)) (list_all (λ due. has due gone || not (has due dues)) news) all).1 q t out
]
  where
    both : (a b : Bool) → (a && b) ≡ true → (a ≡ true) × (b ≡ true)
    both true b e = (refl, e)
    both false b e = cc

    not_there : (a b : Bool) → (a || not b) ≡ true → a ≡ false → b ≡ false
    not_there true b e f = cc
    not_there false true e f = cc
    not_there false false e f = refl

-- ---- at a place

pub has_itself : (d : Due) (ds : List Due) → has d (d ∷ ds) ≡ true
has_itself d ds = ap (λ o. is_eq o || has d ds) (itself d)

pub has_more : (q d : Due) (ds : List Due) → has q ds ≡ true → has q (d ∷ ds) ≡ true
has_more q d ds h = or_true (is_eq (compare_dues q d)) (has q ds) h
  where
    or_true : (a b : Bool) → b ≡ true → (a || b) ≡ true
    or_true true b e = refl
    or_true false b e = e

pub has_at : (ds : List Due) (n : ℕ) (d : Due) → slice_get ds n ≡ Some d → has d ds ≡ true
has_at [] n d at = absurd (no at)
  where
    no : None ≡ Some d → ⊥
    no e = cc
has_at (x ∷ ds) zero d at = ap (λ (z : Due). has d (z ∷ ds)) (some at) ∙ has_itself d ds
  where
    some : Some x ≡ Some d → x ≡ d
    some e = cc
has_at (x ∷ ds) (suc n) d at = has_more d x ds (has_at ds n d at)

-- the next of the new ones isn't there once those in front of it came
none_in_front : (news : List Due) (n : ℕ) (x : Due) → Ascends news → slice_get news n ≡ Some x → has x (take n news) ≡ false
none_in_front news zero x up at = refl
none_in_front [] (suc n) x up at = refl
none_in_front (y ∷ news) (suc n) x up at = ap (λ o. is_eq o || has x (take n news)) (flip y x Less (before_at y x news n up.0 at)) ∙ none_in_front news n x up.1 at

pub absent_among : (news : List Due) (n : ℕ) (x : Due) (dues : List Due) → Ascends news → slice_get news n ≡ Some x → AreAbsent news dues → has x (fold put_due dues (take n news)) ≡ false
absent_among news n x dues up at absent =
    has_all_put x dues (take n news)
    ∙ ap (λ b. b || has x dues) (none_in_front news n x up at)
    ∙ absent x (has_at news n x at)

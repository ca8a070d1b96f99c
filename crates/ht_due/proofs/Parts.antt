-- A due and an ascending list in parts.
use Rattle.std.proofs.Common.{◌≡◌, false, List, [], ◌∷◌, ◌++◌, Some, None, refl, ap, ◌∙◌, ◌||◌}
use Rattle.std.specs.Prelude.{slice_get}
use Rattle.std.specs.List.{AllByRecursion}
use Rattle.std.specs.Ordering.{is_eq, match_ordering}
use Rattle.std.specs.declared.cmp.Ordering.{Ordering}
use Rattle.std.specs.declared.cmp.Ordering.TheVariants.{Less, Equal, Greater}
use Rattle.ht_due.specs.declared.due.Due.{Due}
use Rattle.ht_due.specs.Dues.{Ascends, compare_dues, has, next_after, put_due, without}
use Rattle.ht_due.proofs.Order.{Before, due_order, flip}

-- it comes after each of these
abbrev pub After : Due → List Due → Type 0
After y xs = AllByRecursion (λ x. compare_dues x y ≡ Less) xs

pub after_more : (y z : Due) (xs : List Due) → compare_dues y z ≡ Less → After y xs → After z xs
after_more y z [] l a = tt
after_more y z (x ∷ xs) l a = (due_order.trans x y z a.0 l, after_more y z xs l a.1)

-- ---- behind those in front

pub put_front : (xs b : List Due) (y : Due) → After y xs → put_due (xs ++ b) y ≡ xs ++ put_due b y
put_front [] b y a = refl
put_front (x ∷ xs) b y a = ap (λ o. match_ordering o (y ∷ x ∷ (xs ++ b)) (x ∷ (xs ++ b)) (x ∷ put_due (xs ++ b) y)) (flip x y Less a.0) ∙ ap (λ l. x ∷ l) (put_front xs b y a.1)

pub without_front : (xs b : List Due) (y : Due) → After y xs → without (xs ++ b) y ≡ xs ++ without b y
without_front [] b y a = refl
without_front (x ∷ xs) b y a = ap (λ o. match_ordering o (x ∷ (xs ++ b)) (xs ++ b) (x ∷ without (xs ++ b) y)) (flip x y Less a.0) ∙ ap (λ l. x ∷ l) (without_front xs b y a.1)

pub has_front : (xs b : List Due) (y : Due) → After y xs → has y (xs ++ b) ≡ has y b
has_front [] b y a = refl
has_front (x ∷ xs) b y a = ap (λ o. is_eq o || has y (xs ++ b)) (flip x y Less a.0) ∙ has_front xs b y a.1

pub next_front : (xs b : List Due) (y : Due) → After y xs → next_after y (xs ++ b) ≡ next_after y b
next_front [] b y a = refl
next_front (x ∷ xs) b y a = ap (λ o. match_ordering o (Some x) (next_after y (xs ++ b)) (next_after y (xs ++ b))) (flip x y Less a.0) ∙ next_front xs b y a.1

-- ---- before those behind

pub put_back : (b ys : List Due) (y : Due) → Before y ys → put_due (b ++ ys) y ≡ put_due b y ++ ys
put_back [] [] y a = refl
put_back [] (z ∷ ys) y a = ap (λ o. match_ordering o (y ∷ z ∷ ys) (z ∷ ys) (z ∷ put_due ys y)) a.0
put_back (x ∷ b) ys y a = go (compare_dues y x) (put_back b ys y a)
  where
    go : (o : Ordering) → put_due (b ++ ys) y ≡ put_due b y ++ ys → match_ordering o (y ∷ x ∷ (b ++ ys)) (x ∷ (b ++ ys)) (x ∷ put_due (b ++ ys) y) ≡ match_ordering o (y ∷ x ∷ b) (x ∷ b) (x ∷ put_due b y) ++ ys
    go Less more = refl
    go Equal more = refl
    go Greater more = ap (λ l. x ∷ l) more

pub without_back : (b ys : List Due) (y : Due) → Before y ys → without (b ++ ys) y ≡ without b y ++ ys
without_back [] [] y a = refl
without_back [] (z ∷ ys) y a = ap (λ o. match_ordering o (z ∷ ys) ys (z ∷ without ys y)) a.0
without_back (x ∷ b) ys y a = go (compare_dues y x) (without_back b ys y a)
  where
    go : (o : Ordering) → without (b ++ ys) y ≡ without b y ++ ys → match_ordering o (x ∷ (b ++ ys)) (b ++ ys) (x ∷ without (b ++ ys) y) ≡ match_ordering o (x ∷ b) b (x ∷ without b y) ++ ys
    go Less more = refl
    go Equal more = refl
    go Greater more = ap (λ l. x ∷ l) more

has_none : (ys : List Due) (y : Due) → Before y ys → has y ys ≡ false
has_none [] y a = refl
has_none (z ∷ ys) y a = ap (λ o. is_eq o || has y ys) a.0 ∙ has_none ys y a.1

pub has_back : (b ys : List Due) (y : Due) → Before y ys → has y (b ++ ys) ≡ has y b
has_back [] ys y a = has_none ys y a
has_back (x ∷ b) ys y a = ap (λ c. is_eq (compare_dues y x) || c) (has_back b ys y a)

pub next_within : (b ys : List Due) (y d : Due) → next_after y b ≡ Some d → next_after y (b ++ ys) ≡ Some d
next_within [] ys y d e = cc
next_within (x ∷ b) ys y d e = go (compare_dues y x) e (next_within b ys y d)
  where
    go : (o : Ordering) → match_ordering o (Some x) (next_after y b) (next_after y b) ≡ Some d → (next_after y b ≡ Some d → next_after y (b ++ ys) ≡ Some d) → match_ordering o (Some x) (next_after y (b ++ ys)) (next_after y (b ++ ys)) ≡ Some d
    go Less e more = e
    go Equal e more = more e
    go Greater e more = more e

pub next_beyond : (b ys : List Due) (y : Due) → Before y ys → next_after y b ≡ None → next_after y (b ++ ys) ≡ slice_get ys 0
next_beyond [] [] y a e = refl
next_beyond [] (z ∷ ys) y a e = ap (λ o. match_ordering o (Some z) (next_after y ys) (next_after y ys)) a.0
next_beyond (x ∷ b) ys y a e = go (compare_dues y x) e (next_beyond b ys y a)
  where
    go : (o : Ordering) → match_ordering o (Some x) (next_after y b) (next_after y b) ≡ None → (next_after y b ≡ None → next_after y (b ++ ys) ≡ slice_get ys 0) → match_ordering o (Some x) (next_after y (b ++ ys)) (next_after y (b ++ ys)) ≡ slice_get ys 0
    go Less e more = cc
    go Equal e more = more e
    go Greater e more = more e

-- ---- of one that stands in the list

before_left : (x : Due) (xs ys : List Due) → Before x (xs ++ ys) → Before x xs
before_left x [] ys b = tt
before_left x (z ∷ xs) ys b = (b.0, before_left x xs ys b.1)

before_right : (x : Due) (xs ys : List Due) → Before x (xs ++ ys) → Before x ys
before_right x [] ys b = b
before_right x (z ∷ xs) ys b = before_right x xs ys b.1

pub ascends_left : (xs ys : List Due) → Ascends (xs ++ ys) → Ascends xs
ascends_left [] ys up = tt
ascends_left (x ∷ xs) ys up = (before_left x xs ys up.0, ascends_left xs ys up.1)

pub ascends_right : (xs ys : List Due) → Ascends (xs ++ ys) → Ascends ys
ascends_right [] ys up = up
ascends_right (x ∷ xs) ys up = ascends_right xs ys up.1

pub after_those : (xs : List Due) (x : Due) (ys : List Due) → Ascends (xs ++ x ∷ ys) → After x xs
after_those [] x ys up = tt
after_those (z ∷ xs) x ys up = ((before_right z xs (x ∷ ys) up.0).0, after_those xs x ys up.1)

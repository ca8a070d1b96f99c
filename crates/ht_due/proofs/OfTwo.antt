-- The least of dues, and of two lists of them.
use Rattle.std.proofs.Common.{◌≡◌, Bool, true, false, ◌||◌, List, [], ◌∷◌, ◌++◌, Option, Some, None, refl, sym, ap, ◌∙◌}
use Rattle.std.specs.Prelude.{slice_get}
use Rattle.std.specs.Ordering.{is_eq, match_ordering, ordering_reverse}
use Rattle.std.specs.declared.cmp.Ordering.{Ordering}
use Rattle.std.specs.declared.cmp.Ordering.TheVariants.{Less, Equal, Greater}
use Rattle.ht_due.specs.declared.due.Due.{Due}
use Rattle.ht_due.specs.Dues.{Ascends, compare_dues, has, in_order, least_of, lesser}
use Rattle.ht_due.proofs.InOrder.{has_append, has_in_order, in_order_ascends}
use Rattle.ht_due.proofs.Leasts.{least_none, least_some}
use Rattle.ht_due.proofs.Order.{due_order, exact, itself}

-- one of these, before which none of them comes; and none where there are none
abbrev pub IsLeast : List Due → Option Due → Type 0
IsLeast dues (Some due) = (has due dues ≡ true) × ((q : Due) → has q dues ≡ true → compare_dues q due ≡ Less → ⊥)
IsLeast dues None = (q : Due) → has q dues ≡ true → ⊥

first_there : (dues : List Due) (due : Due) → slice_get dues 0 ≡ Some due → has due dues ≡ true
first_there [] due at = cc
first_there (d ∷ dues) due at =
    let same : d ≡ due = cc in
    ap (λ (x : Due). is_eq (compare_dues due x) || has due dues) same ∙ ap (λ o. is_eq o || has due dues) (itself due)

-- of an ascending list it is the first
pub first_is_least : (dues : List Due) → Ascends dues → IsLeast dues (slice_get dues 0)
first_is_least dues up = go (slice_get dues 0) refl
  where
    go : (o : Option Due) → slice_get dues 0 ≡ o → IsLeast dues o
    go (Some due) at = (first_there dues due at, λ q there less. least_some dues due q up at there less)
    go None at = λ q there. let none = least_none dues q at in cc

-- there is one at most
pub one_least : (dues : List Due) (a b : Option Due) → IsLeast dues a → IsLeast dues b → a ≡ b
one_least dues None None x y = refl
one_least dues None (Some b) x y = absurd (x b y.0)
one_least dues (Some a) None x y = absurd (y a x.0)
one_least dues (Some a) (Some b) x y = go (compare_dues a b) refl
  where
    go : (o : Ordering) → compare_dues a b ≡ o → Some a ≡ Some b
    go Less e = absurd (y.1 a x.0 e)
    go Equal e = ap (λ (d : Due). Some d) (exact a b e)
    go Greater e = absurd (x.1 b y.0 (due_order.antisymm b a ∙ ap ordering_reverse e))

-- of lists with the same dues
pub same_least : (xs ys : List Due) → ((q : Due) → has q xs ≡ has q ys) → (o : Option Due) → IsLeast xs o → IsLeast ys o
same_least xs ys same (Some due) least = (sym (same due) ∙ least.0, λ q there. least.1 q (same q ∙ there))
same_least xs ys same None least = λ q there. least q (same q ∙ there)

pub least_is_least : (dues : List Due) → IsLeast dues (least_of dues)
least_is_least dues = same_least (in_order dues) dues (λ q. has_in_order q dues) (least_of dues) (first_is_least (in_order dues) (in_order_ascends dues))

-- ---- of two lists

either : (a b : Bool) → (a || b) ≡ true → (a ≡ false → b ≡ true)
either true b e = λ f. cc
either false b e = λ f. e

module _ (xs ys : List Due) where
  in_first : (q : Due) → has q xs ≡ true → has q (xs ++ ys) ≡ true
  in_first q there = has_append q xs ys ∙ ap (λ b. b || has q ys) there

  in_second : (q : Due) → has q ys ≡ true → has q (xs ++ ys) ≡ true
  in_second q there = has_append q xs ys ∙ ap (λ b. has q xs || b) there ∙ both (has q xs)
    where
      both : (b : Bool) → (b || true) ≡ true
      both true = refl
      both false = refl

  in_one : (q : Due) → has q (xs ++ ys) ≡ true → (has q xs ≡ true → ⊥) → has q ys ≡ true
  in_one q there out = go (has q xs) refl
    where
      go : (b : Bool) → has q xs ≡ b → has q ys ≡ true
      go true e = absurd (out e)
      go false e = ap (λ b. b || has q ys) (sym e) ∙ sym (has_append q xs ys) ∙ there

  lesser_least : (a b : Option Due) → IsLeast xs a → IsLeast ys b → IsLeast (xs ++ ys) (lesser a b)
  lesser_least None None x y = λ q there. y q (in_one q there (x q))
  lesser_least None (Some b) x y = (in_second b y.0, λ q there. y.1 q (in_one q there (x q)))
  lesser_least (Some a) None x y = (in_first a x.0, λ q there less. y q (in_one q there (λ first. x.1 q first less)))
  lesser_least (Some a) (Some b) x y = go (compare_dues a b) refl
    where
      -- what comes before the one comes before the other
      a_is : (compare_dues a b ≡ Greater → ⊥) → IsLeast (xs ++ ys) (Some a)
      a_is low = (in_first a x.0, λ q there less. y.1 q (in_one q there (λ first. x.1 q first less)) (before (compare_dues a b) refl q less low))
        where
          before : (o : Ordering) → compare_dues a b ≡ o → (q : Due) → compare_dues q a ≡ Less → (compare_dues a b ≡ Greater → ⊥) → compare_dues q b ≡ Less
          before Less e q less low = due_order.trans q a b less e
          before Equal e q less low = ap (λ (d : Due). compare_dues q d) (sym (exact a b e)) ∙ less
          before Greater e q less low = absurd (low e)

      go : (o : Ordering) → compare_dues a b ≡ o → IsLeast (xs ++ ys) (match_ordering o (Some a) (Some a) (Some b))
      go Less e = a_is (λ f. cc)
      go Equal e = a_is (λ f. cc)
      go Greater e = (in_second b y.0, λ q there less. y.1 q (in_one q there (λ first. x.1 q first (due_order.trans q b a less (due_order.antisymm b a ∙ ap ordering_reverse e)))) less)

  pub least_append : least_of (xs ++ ys) ≡ lesser (least_of xs) (least_of ys)
  least_append = one_least (xs ++ ys) (least_of (xs ++ ys)) (lesser (least_of xs) (least_of ys)) (least_is_least (xs ++ ys)) (lesser_least (least_of xs) (least_of ys) (least_is_least xs) (least_is_least ys))

-- in a row of three the order of comparing is all one
pub lesser_then : (o : Option Due) (xs ys : List Due) → lesser (lesser o (least_of xs)) (least_of ys) ≡ lesser o (least_of (xs ++ ys))
lesser_then None xs ys = sym (least_append xs ys)
lesser_then (Some d) xs ys =
    ap (λ l. lesser l (least_of ys)) (sym (least_append (d ∷ []) xs))
    ∙ sym (least_append (d ∷ xs) ys)
    ∙ least_append (d ∷ []) (xs ++ ys)

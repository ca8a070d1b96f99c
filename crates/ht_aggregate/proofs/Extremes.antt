-- The least and the greatest of numbers, as a fold finds them.
use Rattle.std.proofs.Common.{◌≡◌, ℤ, ◌≤ℤ◌, List, [], ◌∷◌, Option, Some, None, MatchOption, refl, ap, ◌∙◌, subst, fold, inl, inr, arith}
use Rattle.std.specs.Int.{int_max, int_min}
use Rattle.std.specs.List.{Contains, reduce}
use Rattle.std.specs.Ordering.{int_cmp, max_by_ordering, min_by_ordering}
use Rattle.std.proofs.lemmas.Int.{fold-int_max_bounds, fold-int_max_reached, fold-int_min_bounds, fold-int_min_reached, ints}
use Rattle.std.proofs.lemmas.List.Elements.{All-cons}
use Rattle.ht_aggregate.specs.Numbers.{IsGreatest, IsLeast}
use Rattle.ht_aggregate.proofs.Members.{Contains-first, Contains-later}

abbrev pub lesser : ℤ → ℤ → ℤ
lesser x y = min_by_ordering (int_cmp x y) x y

abbrev pub greater : ℤ → ℤ → ℤ
greater x y = max_by_ordering (int_cmp x y) x y

lesser_is : (x y : ℤ) → lesser x y ≡ int_min x y
lesser_is x y = grind (arith, ints)

greater_is : (x y : ℤ) → greater x y ≡ int_max x y
greater_is x y = grind (arith, ints)

same_fold : (f g : ℤ → ℤ → ℤ) → ((x y : ℤ) → f x y ≡ g x y) → (x : ℤ) (ns : List ℤ) → fold f x ns ≡ fold g x ns
same_fold f g same x [] = refl
same_fold f g same x (n ∷ ns) = ap (λ y. fold f y ns) (same x n) ∙ same_fold f g same (g x n) ns

pub least_of : (ns : List ℤ) (r : Option ℤ) → r ≡ reduce lesser ns → MatchOption r (ns ≡ []) (IsLeast ns)
least_of [] None e = refl
least_of [] (Some r) e = absurd cc
least_of (n ∷ ns) None e = absurd cc
least_of (n ∷ ns) (Some r) e =
    let folded : fold lesser n ns ≡ fold int_min n ns = same_fold lesser int_min lesser_is n ns in
    let is : r ≡ fold int_min n ns = cc in
    let bounds = fold-int_min_bounds n ns r is in
    record {
      occurs = elim (fold-int_min_reached n ns r is) [ inl first ↦ subst (λ y. Contains (y ∷ ns) r) first (Contains-first r ns) | inr later ↦ Contains-later n ns r later ];
      bound = All-cons (λ m. r ≤ℤ m) n ns bounds.0 bounds.1;
    }

pub greatest_of : (ns : List ℤ) (r : Option ℤ) → r ≡ reduce greater ns → MatchOption r (ns ≡ []) (IsGreatest ns)
greatest_of [] None e = refl
greatest_of [] (Some r) e = absurd cc
greatest_of (n ∷ ns) None e = absurd cc
greatest_of (n ∷ ns) (Some r) e =
    let folded : fold greater n ns ≡ fold int_max n ns = same_fold greater int_max greater_is n ns in
    let is : r ≡ fold int_max n ns = cc in
    let bounds = fold-int_max_bounds n ns r is in
    record {
      occurs = elim (fold-int_max_reached n ns r is) [ inl first ↦ subst (λ y. Contains (y ∷ ns) r) first (Contains-first r ns) | inr later ↦ Contains-later n ns r later ];
      bound = All-cons (λ m. m ≤ℤ r) n ns bounds.0 bounds.1;
    }

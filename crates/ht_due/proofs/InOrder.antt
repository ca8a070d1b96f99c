-- Dues that are put in order.
use Rattle.std.proofs.Common.{◌≡◌, Bool, true, false, ◌||◌, List, [], ◌∷◌, ◌++◌, refl, sym, ap, ◌∙◌}
use Rattle.std.specs.Ordering.{is_eq}
use Rattle.ht_due.specs.declared.due.Due.{Due}
use Rattle.ht_due.specs.Dues.{Ascends, compare_dues, has, in_order}
use Rattle.ht_due.proofs.Ascending.{same_dues}
use Rattle.ht_due.proofs.Members.{ascends_all_put, has_all_put}

pub has_append : (q : Due) (xs ys : List Due) → has q (xs ++ ys) ≡ (has q xs || has q ys)
has_append q [] ys = refl
has_append q (x ∷ xs) ys = ap (λ b. is_eq (compare_dues q x) || b) (has_append q xs ys) ∙ turn (is_eq (compare_dues q x)) (has q xs) (has q ys)
  where
    turn : (a b c : Bool) → (a || (b || c)) ≡ ((a || b) || c)
    turn true b c = refl
    turn false b c = refl

or_false : (b : Bool) → (b || false) ≡ b
or_false true = refl
or_false false = refl

pub has_in_order : (q : Due) (ds : List Due) → has q (in_order ds) ≡ has q ds
has_in_order q ds = has_all_put q [] ds ∙ or_false (has q ds)

pub in_order_ascends : (ds : List Due) → Ascends (in_order ds)
in_order_ascends ds = ascends_all_put [] ds tt

-- dues that were put in order
pub ordered : (xs ds : List Due) → Ascends xs → ((q : Due) → has q xs ≡ has q ds) → xs ≡ in_order ds
ordered xs ds up same = same_dues xs (in_order ds) up (in_order_ascends ds) (λ q. same q ∙ sym (has_in_order q ds))

-- Rows and persons that are found.
use Rattle.std.proofs.Common.{◌≡◌, ℕ, ◌<◌, zero, suc, get_or, List, [], ◌∷◌, length, Option, Some, None, refl, arith}
use Rattle.ht_base.specs.Persons.{AllBelow}

pub below_at : (n : ℕ) (ps : List ℕ) (i p : ℕ) → AllBelow n ps → i < length ps → p ≡ get_or ps i p → p < n
below_at n [] i p all h is = absurd (omega arith)
below_at n (q ∷ ps) zero p all h is = let low = all.0 in omega arith
below_at n (q ∷ ps) (suc i) p all h is = below_at n ps i p all.1 (omega arith) is

pub none_found : {A : Type 0} (o : Option A) → ((x : A) → o ≡ Some x → ⊥) → o ≡ None
none_found None f = refl
none_found (Some x) f = absurd (f x refl)

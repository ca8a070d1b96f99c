-- The last name of a list of parts.
use Rattle.std.proofs.Common.{◌≡◌, ℕ, zero, suc, ◌+◌, get_or, List, [], ◌∷◌, length, Some, refl, arith, IsTrue}
use Rattle.ht_base.specs.Values.{IsBehind}
use Rattle.ht_base.specs.declared.scalar.Scalar.{Scalar}
use Rattle.ht_codec.specs.Fields.{is_behind, last_name}

pub behind_all : (n : List ℕ) (vs : List (List ℕ × Scalar)) → IsTrue (is_behind (last_name vs) n) → IsBehind n vs
behind_all n [] h = tt
behind_all n (w ∷ []) h = h
behind_all n (w ∷ x ∷ vs) h = behind_all n (x ∷ vs) h

pub last_is : (vs : List (List ℕ × Scalar)) (i : ℕ) (d : List ℕ × Scalar) → i + 1 ≡ length vs → last_name vs ≡ Some (get_or vs i d).0
last_is [] i d e = absurd (omega arith)
last_is (v ∷ []) zero d e = refl
last_is (v ∷ []) (suc i) d e = absurd (omega arith)
last_is (v ∷ w ∷ vs) zero d e = absurd (omega arith)
last_is (v ∷ w ∷ vs) (suc i) d e = last_is (w ∷ vs) i d (omega arith)

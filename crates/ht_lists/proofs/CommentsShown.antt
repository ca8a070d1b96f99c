-- Comments that are shown one after another.
use Rattle.std.proofs.Common.{◌≡◌, ℕ, ◌+◌, ◌<◌, zero, suc, List, [], ◌∷◌, ◌++◌, length, map, take, slice_get, Some, None, ap, sym, ◌∙◌, arith}
use native.Mathlib.Numerals.{unary_clauses}

one_more : {A B : Type 0} (f : A → B) (xs : List A) (i : ℕ) (x : A) → slice_get xs i ≡ Some x → map f (take (i + 1) xs) ≡ map f (take i xs) ++ f x ∷ []
one_more f [] i x at = cc
one_more {A = A} f (y ∷ xs) zero x at = let same : y ≡ x = cc in ap (λ (z : A). f z ∷ []) same
one_more f (y ∷ xs) (suc i) x at =
    let rest = simp unary_clauses at (one_more f xs i x at) in
    simp unary_clauses (ap (λ zs. f y ∷ zs) rest)

pub added : {A B : Type 0} (f : A → B) (xs : List A) (i : ℕ) (x : A) (old new : List B) (v : B) → slice_get xs i ≡ Some x → old ≡ map f (take i xs) → v ≡ f x → new ≡ old ++ v ∷ [] → new ≡ map f (take (i + 1) xs)
added f xs i x old new v at so_far is pushed =
    pushed ∙ ap (λ l. l ++ v ∷ []) so_far ∙ ap (λ z. map f (take i xs) ++ z ∷ []) is ∙ sym (one_more f xs i x at)

-- each place in the list has one
pub there_is : {A : Type 0} (xs : List A) (i : ℕ) → i < length xs → slice_get xs i ≡ None → ⊥
there_is [] i within none = absurd (omega arith)
there_is (x ∷ xs) zero within none = cc
there_is (x ∷ xs) (suc i) within none = there_is xs i (omega arith) none

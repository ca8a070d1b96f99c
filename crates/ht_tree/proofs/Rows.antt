-- What stands at a place of a list.
use Rattle.std.proofs.Common.{◌≡◌, ℕ, ◌+◌, ◌<◌, zero, suc, Bool, true, false, List, [], ◌∷◌, ◌++◌, length, filter, take, Some, if◌then◌else◌, refl, ap, ◌∙◌, arith}
use Rattle.std.proofs.lemmas.List.{take_more}
use Rattle.std.proofs.lemmas.Option.{get_or_from_slice_get, slice_get_within}
use Rattle.std.specs.Prelude.{slice_get}

pub some_at : {X : Type 0} (xs : List X) (i : ℕ) → i < length xs → (x : X) × (slice_get xs i ≡ Some x)
some_at [] i h = absurd (omega arith)
some_at (x ∷ xs) zero h = (x, refl)
some_at (x ∷ xs) (suc i) h = some_at xs i (omega arith)

-- in a list what stands in its first part
pub taken_at : {X : Type 0} (n : ℕ) (xs : List X) (i : ℕ) (x : X) → slice_get (take n xs) i ≡ Some x → (i < n) × (slice_get xs i ≡ Some x)
taken_at zero xs i x at = absurd cc
taken_at (suc n) [] i x at = absurd cc
taken_at (suc n) (y ∷ xs) zero x at = (omega arith, at)
taken_at (suc n) (y ∷ xs) (suc i) x at = let rest = taken_at n xs i x at in let low = rest.0 in (omega arith, rest.1)

-- one more of it
pub take_next : {X : Type 0} (xs : List X) (i : ℕ) (x : X) → slice_get xs i ≡ Some x → take (i + 1) xs ≡ take i xs ++ x ∷ []
take_next xs i x at = take_more xs i x (slice_get_within xs i x at) ∙ ap (λ y. take i xs ++ y ∷ []) (get_or_from_slice_get xs i x x at)

-- in a list what a test leaves of it
pub filtered_at : {X : Type 0} (p : X → Bool) (xs : List X) (i : ℕ) (x : X) → slice_get (filter p xs) i ≡ Some x → (j : ℕ) × (slice_get xs j ≡ Some x)
filtered_at p [] i x at = absurd cc
filtered_at {X = X} p (y ∷ xs) i x at = go (p y) i at (λ k h. filtered_at p xs k x h)
  where
    go : (b : Bool) (i : ℕ) → slice_get (if b then y ∷ filter p xs else filter p xs) i ≡ Some x → ((k : ℕ) → slice_get (filter p xs) k ≡ Some x → (j : ℕ) × (slice_get xs j ≡ Some x)) → (j : ℕ) × (slice_get (y ∷ xs) j ≡ Some x)
    go true zero at rest = (0, at)
    go true (suc k) at rest = let h = rest k at in (suc h.0, h.1)
    go false i at rest = let h = rest i at in (suc h.0, h.1)

-- What holds of each element of a list.
use Rattle.std.proofs.Common.{◌≡◌, ℕ, ◌+◌, ◌<◌, ◌≤◌, Bool, false, List, Some, All, get_or, length, subst, sym, take}
use Rattle.std.specs.Prelude.{slice_get, slice_index_or}
use Rattle.std.specs.List.{list_any}
use Rattle.std.proofs.lemmas.Bool.{both_ways, false_from_ne_true}
use Rattle.std.proofs.lemmas.List.{take_all, take_more}
use Rattle.std.proofs.lemmas.List.Elements.{All-push}
use Rattle.std.proofs.lemmas.Map.Keys.{any_passes_from_place}
use Rattle.std.proofs.lemmas.Option.{get_or_from_slice_get, slice_get-get_or, slice_get_within}

module _ {X : Type 0} where
  -- where none passes a test
  pub fails_at : (test : X → Bool) (xs : List X) → list_any test xs ≡ false → (i : ℕ) (x : X) → slice_get xs i ≡ Some x → test x ≡ false
  fails_at test xs none i x at = false_from_ne_true (test x) (λ yes. both_ways (list_any test xs) none (any_passes_from_place test xs i x at yes))

  module _ (P : X → Type 0) (xs : List X) where
    pub all_at : ((i : ℕ) (x : X) → slice_get xs i ≡ Some x → P x) → All P xs
    all_at each = λ k d low. each k (slice_index_or xs k d) (slice_get-get_or xs k d low)

    pub holds_at : All P xs → (i : ℕ) (x : X) → slice_get xs i ≡ Some x → P x
    holds_at all i x at = subst P (get_or_from_slice_get xs i x x at) (all i x (slice_get_within xs i x at))

    -- one more
    pub all_more : (i : ℕ) (x : X) → i < length xs → x ≡ get_or xs i x → All P (take i xs) → P x → All P (take (i + 1) xs)
    all_more i x low is all one = rw (take_more xs i x low, sym is) (All-push P (take i xs) x all one)

    -- all are behind
    pub all_behind : (i : ℕ) → length xs ≤ i → All P (take i xs) → All P xs
    all_behind i past all = rw (take_all i xs past) at all

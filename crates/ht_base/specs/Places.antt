-- Places in lists, counted from 0.
use Rattle.std.specs.Prelude.{◌≡◌, ℕ, ◌+◌, ◌<◌, ◌≤◌, List, [], ◌∷◌, Option, Some, None, option_map, bytes_eq, slice_get, if◌then◌else◌}

-- the least place at which something holds
pub record IsLeast (P : ℕ → Type 0) (place : ℕ) : Type 0 where
  pub holds : P place
  pub least : (other : ℕ) → P other → place ≤ other

-- and where there is none, it holds nowhere
abbrev pub IsLeastIfAny : (ℕ → Type 0) → Option ℕ → Type 0
IsLeastIfAny P None = (place : ℕ) → P place → ⊥
IsLeastIfAny P (Some place) = IsLeast P place

-- it holds this many places before
abbrev pub Behind : ℕ → (ℕ → Type 0) → ℕ → Type 0
Behind count P place = (i : ℕ) × (place ≡ count + i) × P i

-- what stands at this place stands at an earlier one too
abbrev pub IsRepeated : {X : Type 0} → List X → ℕ → Type 0
IsRepeated {X} xs i = (j : ℕ) × (j < i) × (x : X) × (slice_get xs j ≡ Some x) × (slice_get xs i ≡ Some x)

-- the first place at which a name stands
abbrev pub place_in : List ℕ → List (List ℕ) → Option ℕ
place_in name [] = None
place_in name (n ∷ ns) = if bytes_eq n name then Some 0 else option_map (λ i. i + 1) (place_in name ns)

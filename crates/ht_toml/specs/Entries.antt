-- What the entries of an array say, each by its shape.
use Rattle.std.specs.Prelude.{◌≡◌, ℕ, List, [], ◌∷◌, Option, Some, None, option_map, slice_get}
use Rattle.std.specs.Option.{option_and_then}

-- what every entry says, where each has its shape
abbrev pub each : {A B : Type 0} → (A → Option B) → List A → Option (List B)
each of [] = Some []
each of (d ∷ ds) = option_and_then (λ e. option_map (λ es. e ∷ es) (each of ds)) (of d)

-- the entry at this place has another shape
abbrev pub IsMisshapen : {A B : Type 0} → (A → Option B) → List A → ℕ → Type 0
IsMisshapen {A} of ds place = (d : A) × (slice_get ds place ≡ Some d) × (of d ≡ None)

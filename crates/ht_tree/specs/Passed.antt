-- The deadlines that were taken, by their places in the model.
use Rattle.std.specs.Prelude.{ℕ, nat_lt, List, [], ◌∷◌, ◌++◌, filter, if◌then◌else◌}

-- these with one more, which stands between those that come before it and those that come behind it
abbrev pub taken_with : ℕ → List ℕ → List ℕ
taken_with place taken = filter (λ p. nat_lt p place) taken ++ place ∷ filter (λ p. nat_lt place p) taken

-- with this place before the first that isn't less
abbrev pub with_place : List ℕ → ℕ → List ℕ
with_place [] place = place ∷ []
with_place (first ∷ places) place = if nat_lt first place then first ∷ with_place places place else place ∷ first ∷ places

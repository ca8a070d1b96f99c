-- Which reply closes a connection.
use Rattle.std.specs.Prelude.{◌≡◌, ℕ, ◌+◌, ◌==◌, ◌&&◌, ◌||◌, Bool, true, false, List, [], ◌∷◌}

-- whether the reply to request number k, counted from 0, closes the connection: that to the last of its
-- requests, and, where it is to be closed behind the most, that to the last that may be answered
abbrev pub closes_at : Bool → ℕ → ℕ → Bool → Bool
closes_at closing most k last = last || (closing && (k + 1 == most))

-- none of these closes it
abbrev pub GoOn : List Bool → Type 0
GoOn [] = Unit {0}
GoOn (closes ∷ more) = (closes ≡ false) × GoOn more

-- the last of these does
abbrev pub Close : List Bool → Type 0
Close [] = ⊥
Close (closes ∷ []) = closes ≡ true
Close (closes ∷ next ∷ more) = Close (next ∷ more)

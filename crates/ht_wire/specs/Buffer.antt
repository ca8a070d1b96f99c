-- What one read puts into a buffer.
use Rattle.std.specs.Prelude.{◌≡◌, ◌⊎◌, ℕ, ◌≤◌, List, [], ◌++◌, length, slice_range, Option, Result, MatchResult}
use Rattle.ht_outside.specs.Tells.{Flow, Takes, IsAtEnd, IsLastRead}

-- these bytes were taken from the source and stand behind the others
pub record Gains (f g : Option Flow) (old new : List ℕ) (count : ℕ) : Type 0 where
  pub taken : List ℕ
  pub takes : Takes f g taken
  pub counted : length taken ≡ count
  pub behind : new ≡ old ++ taken
  pub ended : count ≡ 0 → IsAtEnd g

-- after a failed read all is as before
pub record Stays (f g : Option Flow) (old new : List ℕ) : Type 0 where
  pub takes : Takes f g []
  pub same : new ≡ old

abbrev pub Fills : {E : Type 0} → Option Flow → Option Flow → List ℕ → List ℕ → Result ℕ E → Type 0
Fills f g old new result = MatchResult result (Gains f g old new) (λ _. Stays f g old new)

-- a read was made, or none
abbrev pub IsReadOrNone : Option Flow → Option Flow → Type 0
IsReadOrNone f g = (g ≡ f) ⊎ IsLastRead f g

-- the bytes from start to end stay the same, in as much room or more
pub record MakesRoom (old : List ℕ) (start end : ℕ) (new : List ℕ) (from to : ℕ) : Type 0 where
  pub same : slice_range new from to ≡ slice_range old start end
  pub size : length old ≤ length new
  pub order : from ≤ to
  pub within : to ≤ length new

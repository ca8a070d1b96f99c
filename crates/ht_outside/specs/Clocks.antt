-- What a clock tells: the kth moment that it gives from now on, for each k, counted from 0.
use Rattle.std.specs.Prelude.{◌≡◌, ℕ, ◌+◌, ◌*◌, min, Option, Some, None, option_map, ⊤}
use Rattle.ht_base.specs.Moment.{last_moment}

-- the moments from the next one on
abbrev pub later : Option (ℕ → ℕ) → Option (ℕ → ℕ)
later moments = option_map (λ m k. m (k + 1)) moments

-- the next moment is this one, where the clock tells it
abbrev pub IsNext : Option (ℕ → ℕ) → ℕ → Type 0
IsNext None at = ⊤
IsNext (Some m) at = at ≡ m 0

-- the kth moment of a clock that begins with one moment and goes on by steps, up to the last moment
abbrev pub moment_of : ℕ → ℕ → ℕ → ℕ
moment_of from step k = min (from + k * step) last_moment

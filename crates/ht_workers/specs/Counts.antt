-- Counts that stop at the greatest number of 64 bits.
use Rattle.std.specs.Prelude.{◌≡◌, ℕ, ◌+◌, ◌^◌, ◌<◌}

-- the count rose by this number, where it doesn't come to where it stops
abbrev pub Rises : ℕ → ℕ → ℕ → Type 0
Rises old new by = old + by < 2 ^ 64 → new ≡ old + by

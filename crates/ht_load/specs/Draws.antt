-- Numbers drawn one after another: a linear congruence modulo 2^64, of which the upper 31 bits count.
use Rattle.std.specs.Prelude.{ℕ, ◌+◌, ◌*◌, ◌/◌, ◌%◌, ◌^◌}

-- where drawing comes to from here by one number
unfoldable pub next : ℕ → ℕ
next x = (x * 6364136223846793005 + 1442695040888963407) % 2 ^ 64

-- the number that is drawn where drawing has come to x
abbrev pub drawn : ℕ → ℕ
drawn x = x / 2 ^ 33

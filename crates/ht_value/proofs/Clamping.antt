-- The nearest number of 64 bits.
use Rattle.std.proofs.Common.{◌≡◌, ℕ, arith}
use Rattle.std.specs.Prelude.{ℤ, pos, neg_ℤ, ◌+ℤ◌, ◌-ℤ◌}
use Rattle.std.specs.Int.{saturate_signed}
use mir.Syntax.{w64}
use Rattle.ht_base.specs.Integers.{clamped}

pub clamped_to : (z : ℤ) → saturate_signed w64 z ≡ clamped z
clamped_to z = grind arith

pub clamped_negative : (z : ℤ) → saturate_signed w64 (pos 0 -ℤ z) ≡ clamped (neg_ℤ z)
clamped_negative z = grind arith

pub clamped_unsigned : (n : ℕ) → saturate_signed w64 (pos 0 +ℤ pos n) ≡ clamped (pos n)
clamped_unsigned n = grind arith

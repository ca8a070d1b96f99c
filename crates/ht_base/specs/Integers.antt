-- Whole numbers of 64 bits with a sign.
use Rattle.std.specs.Prelude.{ℤ, pos, neg_ℤ}
use Rattle.std.specs.Int.{int_max, int_min}

abbrev pub least_number : ℤ
least_number = neg_ℤ (pos 9223372036854775808)

abbrev pub greatest_number : ℤ
greatest_number = pos 9223372036854775807

-- the number of 64 bits that is nearest to this one
abbrev pub clamped : ℤ → ℤ
clamped z = int_max least_number (int_min greatest_number z)

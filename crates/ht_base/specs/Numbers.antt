-- Numbers of one to six decimal digits.
use Rattle.std.specs.Prelude.{ℕ, Bool, ◌&&◌, ◌==◌, not, nat_le, List, length, IsTrue}
use Rattle.std.specs.Char.{is_ascii_digit}
use Rattle.std.specs.List.{list_all}
use Rattle.ht_base.specs.declared.limits.TheConstants.{MOST_DIGITS}

-- one to six digits, and nothing else
abbrev pub is_number : List ℕ → Bool
is_number bytes = not (length bytes == 0) && nat_le (length bytes) MOST_DIGITS && list_all is_ascii_digit bytes

abbrev pub IsNumber : List ℕ → Type 0
IsNumber bytes = IsTrue (is_number bytes)

-- The numbers in paths.
use Rattle.std.specs.Prelude.{ℕ, ◌==◌, ◌&&◌, not, nat_le, Bool, false, List, [], ◌∷◌, Option, Some, None, option_map, option_and_then, bytes_eq, codes, if◌then◌else◌}
use Rattle.std.specs.Char.{is_ascii_digit}
use Rattle.std.specs.List.{list_all}
use Rattle.std.specs.Str.Parse.{digits_value}
use Rattle.ht_base.specs.declared.limits.TheConstants.{MOST_LISTED}
use Rattle.ht_base.specs.declared.task_id.TaskId.{TaskId}

-- decimal digits, of which the first isn't 0
abbrev pub is_numeral : List ℕ → Bool
is_numeral [] = false
is_numeral (b ∷ bs) = not (b == 48) && list_all is_ascii_digit (b ∷ bs)

-- the greatest number in a path
abbrev pub last_number : ℕ
last_number = 4294967295

-- a number from 1 on
abbrev pub numeral_in : List ℕ → Option ℕ
numeral_in text = if is_numeral text && nat_le (digits_value 10 text) last_number then Some (digits_value 10 text) else None

abbrev pub task_in : List ℕ → Option TaskId
task_in text = option_map (λ n. record { 0 = n }) (numeral_in text)

-- how many rows of a list are passed over
abbrev pub from_in : List ℕ → Option ℕ
from_in text = if bytes_eq text (codes "0") then Some 0 else numeral_in text

abbrev pub listed : ℕ → Option ℕ
listed n = if nat_le n MOST_LISTED then Some n else None

-- how many are told at most
abbrev pub count_in : List ℕ → Option ℕ
count_in text = option_and_then listed (numeral_in text)

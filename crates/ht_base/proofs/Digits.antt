-- The digits of numbers: their value is small, and digits are no letters.
use Rattle.std.proofs.Common.{rules, ◌≡◌, ℕ, ◌+◌, ◌-◌, ◌*◌, ◌<◌, ◌≤◌, true, not, nat_le, ◌&&◌, ◌==◌, List, length, get_or, take, arith}
use Rattle.std.specs.Char.{is_ascii_digit, digit_value}
use Rattle.std.specs.Int.{IsInRange}
use Rattle.std.specs.List.{list_all}
use Rattle.std.specs.Str.Parse.{digits_value}
use Rattle.std.proofs.lemmas.Bool.{and_parts, leb-true}
use Rattle.std.proofs.lemmas.Bool.Decides.{nat_tests}
use Rattle.std.proofs.lemmas.Int.Digits.{digits_value_more}
use Rattle.std.proofs.lemmas.Str.Parse.{IsDigitsTest, IsNumeralModel, numerals_by_value, digits_value_short, digits_value-take-le, digit_at}
use Rattle.ht_base.specs.Numbers.{IsNumber}
use Rattle.ht_base.specs.declared.limits.TheConstants.{MOST_DIGITS}

tells_digits : IsDigitsTest (λ ds. list_all is_ascii_digit ds ≡ true)
tells_digits = search rules

numerals : IsNumeralModel (λ ds. list_all is_ascii_digit ds ≡ true) (digits_value 10)
numerals = numerals_by_value _ tells_digits

pub digits_of : (ds : List ℕ) → IsNumber ds → list_all is_ascii_digit ds ≡ true
digits_of ds h = (and_parts (not (length ds == 0) && nat_le (length ds) MOST_DIGITS) (list_all is_ascii_digit ds) h).1

pub short : (ds : List ℕ) → IsNumber ds → length ds ≤ MOST_DIGITS
short ds h = leb-true (length ds) MOST_DIGITS (and_parts (not (length ds == 0)) (nat_le (length ds) MOST_DIGITS) (and_parts (not (length ds == 0) && nat_le (length ds) MOST_DIGITS) (list_all is_ascii_digit ds) h).0).1

-- a number is below a million
pub number_small : (ds : List ℕ) → IsNumber ds → digits_value 10 ds ≤ 999999
number_small ds h = let below : digits_value 10 ds < 1000000 = digits_value_short numerals ds MOST_DIGITS (digits_of ds h) (short ds h) in omega arith

value_of_digit : (c : ℕ) → IsInRange 48 57 c → digit_value c ≡ c - 48
value_of_digit c h = grind (arith, nat_tests)

-- one more digit
pub record IsNext (ds : List ℕ) (i : ℕ) : Type 0 where
  pub digit : 48 ≤ get_or ds i 0
  pub value : digits_value 10 (take (i + 1) ds) ≡ digits_value 10 (take i ds) * 10 + (get_or ds i 0 - 48)
  pub small : digits_value 10 (take i ds) * 10 + (get_or ds i 0 - 48) ≤ 999999

pub next : (ds : List ℕ) (i : ℕ) → IsNumber ds → i < length ds → IsNext ds i
next ds i h within =
    let digit = digit_at ds i (numerals.to ds (digits_of ds h)) within in
    let value : digits_value 10 (take (i + 1) ds) ≡ digits_value 10 (take i ds) * 10 + (get_or ds i 0 - 48) =
    rw (value_of_digit (get_or ds i 0) digit) at (digits_value_more 10 ds i within) in
    let part = digits_value-take-le 10 ds (i + 1) (omega arith) in
    let small = number_small ds h in
    record { digit = omega arith; value = value; small = omega arith }

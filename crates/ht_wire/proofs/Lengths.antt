-- The lengths that fields announce.
use Rattle.std.proofs.Common.{rules, ◌≡◌, ◌⊎◌, inl, inr, ℕ, ◌<◌, ◌≤◌, Bool, true, false, ◌&&◌, ◌==◌, not, nat_le, List, length, arith, if◌then◌else◌, Option, Some, None, Result, Ok, Err}
use Rattle.std.specs.Prelude.{codes}
use Rattle.std.specs.Char.{is_ascii_digit}
use Rattle.std.specs.List.{list_all}
use Rattle.std.specs.Str.Parse.{ParsesUnsigned, digits_value}
use Rattle.std.specs.Prelude.{IsTrue}
use Rattle.std.specs.Str.{IsUtf8}
use Rattle.std.proofs.lemmas.Bool.{and_parts, leb-true}
use Rattle.std.proofs.lemmas.Bool.Decides.{nat_tests}
use Rattle.std.proofs.lemmas.Fmt.{IsAscii-from_digits}
use Rattle.std.proofs.lemmas.Str.{IsUtf8-from_ascii}
use Rattle.std.proofs.lemmas.Str.Parse.{IsDigitsTest, IsNumeralModel, numerals_by_value, digits_value_short, parse_gives}
use Rattle.ht_wire.specs.declared.limits.TheConstants.{LONGEST_BODY}
use Rattle.ht_wire.specs.Bodies.{announced, is_length, length_said, limited}
use Rattle.ht_wire.specs.Fields.{values_of, is_nothing}
use Rattle.ht_wire.specs.Heads.{fields_of}
use Rattle.ht_wire.specs.Requests.{IsCutShort, IsReason, IsRefusalCode}

-- ---- the codes

limited_known : (n : Option ℕ) (code : ℕ) → limited n ≡ Err code → IsRefusalCode code
limited_known None code e = inr (inl (cc))
limited_known (Some n) code e = by_test (nat_le n LONGEST_BODY) e
  where
    by_test : (b : Bool) → (if b then Ok n else Err 413) ≡ Err code → IsRefusalCode code
    by_test true e = absurd (cc)
    by_test false e = inr (inr (inl (cc)))

pub code_known : (fields : List (List ℕ × List ℕ)) (code : ℕ) → announced fields ≡ Err code → IsRefusalCode code
code_known fields code e = by_test (is_nothing (values_of (codes "transfer-encoding") fields)) e
  where
    by_test : (b : Bool) → (if b then limited (length_said (values_of (codes "content-length") fields)) else Err 501) ≡ Err code → IsRefusalCode code
    by_test true e = limited_known (length_said (values_of (codes "content-length") fields)) code e
    by_test false e = inr (inr (inr (cc)))

pub reason_code : (stream : List ℕ) (code : ℕ) → IsReason stream code → IsRefusalCode code
reason_code stream code (inl long) = inl long.0
reason_code stream code (inr (inl none)) = inr (inl none.0)
reason_code stream code (inr (inr bad)) = by_why bad.3
  where
    by_why : (announced (fields_of bad.0) ≡ Err code) ⊎ ((code ≡ 400) × IsCutShort (fields_of bad.0) bad.1) → IsRefusalCode code
    by_why (inl e) = code_known (fields_of bad.0) code e
    by_why (inr cut) = inr (inl cut.0)

-- ---- the number that ten digits spell

tells_digits : IsDigitsTest (λ ds. list_all is_ascii_digit ds ≡ true)
tells_digits = search rules

numerals : IsNumeralModel (λ ds. list_all is_ascii_digit ds ≡ true) (digits_value 10)
numerals = numerals_by_value _ tells_digits

-- the parts of the test
of_length : (bs : List ℕ) → IsTrue (is_length bs) → (0 < length bs) × (length bs ≤ 10) × (list_all is_ascii_digit bs ≡ true)
of_length bs h =
    let front = and_parts (not (length bs == 0) && nat_le (length bs) 10) (list_all is_ascii_digit bs) h in
    let ends = and_parts (not (length bs == 0)) (nat_le (length bs) 10) front.0 in
    (some (length bs) ends.0, leb-true (length bs) 10 ends.1, front.1)
  where
    some : (n : ℕ) → not (n == 0) ≡ true → 0 < n
    some n h = grind (arith, nat_tests)

pub value_parsed : {E : Type 0} (bs : List ℕ) (r : Result ℕ E) → ParsesUnsigned 64 10 bs r → IsTrue (is_length bs) → r ≡ Ok (digits_value 10 bs)
value_parsed bs r gives h =
    let parts = of_length bs h in
    let below : digits_value 10 bs < 10000000000 = digits_value_short numerals bs 10 parts.2 parts.1 in
    parse_gives numerals 64 bs r gives parts.2 parts.0 (omega (arith, below))

pub digits_text : (bs : List ℕ) → list_all is_ascii_digit bs ≡ true → IsUtf8 bs
digits_text bs digits = IsUtf8-from_ascii bs (IsAscii-from_digits bs (numerals.to bs digits))

-- Numerals are read as the numbers that they write.
use Rattle.std.proofs.Common.{inl, inr, ◌≡◌, ◌∙◌, ap, subst, refl, ℕ, ◌+◌, ◌-◌, ◌*◌, ◌^◌, ◌==◌, ◌<◌, ◌≤◌, not, Bool, true, false, List, [], ◌∷◌, Some, None, arith}
use Rattle.std.specs.Char.{digit_value, is_ascii_digit}
use Rattle.std.specs.List.{list_all}
use Rattle.std.specs.Str.Parse.{AllDigits, IsNumeral, digits_value, digits_value_after, without_leading_plus}
use Rattle.std.proofs.lemmas.Bool.{and_parts, cases_lt, le-leb, leb-true, lt-leb}
use Rattle.std.proofs.lemmas.Bool.Decides.{eqb_tells, nat_tests}
use Rattle.ht_api.specs.Numbers.{is_numeral, last_number, numeral_in}

-- a digit's value
record IsDigit (c : ℕ) : Type 0 where
  low : 48 ≤ c
  high : c ≤ 57
  value : digit_value c ≡ c - 48

digit_is : (c : ℕ) → is_ascii_digit c ≡ true → IsDigit c
digit_is c h =
    let p = and_parts _ _ h in
    let low = leb-true 48 c p.0 in
    let high = leb-true c 57 p.1 in
    record { low = low; high = high; value = grind (arith, nat_tests) }

all_digits : (ds : List ℕ) → list_all is_ascii_digit ds ≡ true → AllDigits 10 ds
all_digits [] h = tt
all_digits (c ∷ cs) h =
    let p = and_parts (is_ascii_digit c) (list_all is_ascii_digit cs) h in
    let d = digit_is c p.0 in
    (let is = d.value in let high = d.high in omega arith, all_digits cs p.1)

-- more digits make no less
at_least : (n : ℕ) (ds : List ℕ) → n ≤ digits_value_after 10 n ds
at_least n [] = omega arith
at_least n (c ∷ cs) = omega (arith, at_least (n * 10 + digit_value c) cs)

other : (b : ℕ) → not (b == 48) ≡ true → 48 ≤ b → 49 ≤ b
other b h low = elim (eqb_tells b 48) [ inl is ↦ zero_not (b == 48) is.0 h | inr another ↦ (let ne = another.1 in omega arith) ]
  where
    zero_not : (t : Bool) → t ≡ true → not t ≡ true → 49 ≤ b
    zero_not true e n = cc
    zero_not false e n = cc

pub some_number : (text : List ℕ) → is_numeral text ≡ true → 1 ≤ digits_value 10 text
some_number [] h = cc
some_number (b ∷ bs) h =
    let p = and_parts (not (b == 48)) (list_all is_ascii_digit (b ∷ bs)) h in
    let d = digit_is b (and_parts (is_ascii_digit b) (list_all is_ascii_digit bs) p.1).0 in
    let more = other b p.0 d.low in
    let is = d.value in
    omega (arith, at_least (0 * 10 + digit_value b) bs)

no_plus : (text : List ℕ) → is_numeral text ≡ true → without_leading_plus text ≡ text
no_plus [] h = refl
no_plus (b ∷ bs) h =
    let p = and_parts (not (b == 48)) (list_all is_ascii_digit (b ∷ bs)) h in
    let d = digit_is b (and_parts (is_ascii_digit b) (list_all is_ascii_digit bs) p.1).0 in
    elim (eqb_tells b 43) [
      | inl is ↦ (let low = d.low in let same = is.1 in absurd (omega arith))
      | inr another ↦ rw another.0 refl
    ]

numeral : (text : List ℕ) → is_numeral text ≡ true → IsNumeral 10 text
numeral [] h = cc
numeral (b ∷ bs) h = (omega arith, all_digits (b ∷ bs) (and_parts (not (b == 48)) (list_all is_ascii_digit (b ∷ bs)) h).1)

pub reads : (text : List ℕ) (n : ℕ) → is_numeral text ≡ true → digits_value 10 (without_leading_plus text) < 2 ^ 32 → n ≡ digits_value 10 (without_leading_plus text)
    → Some n ≡ numeral_in text
reads text n h small is =
    let same = ap (digits_value 10) (no_plus text h) in
    let fits : digits_value 10 text ≤ last_number = omega arith in
    rw (h, le-leb (digits_value 10 text) last_number fits) (ap (λ (m : ℕ). Some m) (is ∙ same))

pub reads_none : (text : List ℕ) → is_numeral text ≡ true → (IsNumeral 10 (without_leading_plus text) × (digits_value 10 (without_leading_plus text) < 2 ^ 32) → ⊥) → None ≡ numeral_in text
reads_none text h refused =
    let P : List ℕ → Type 0 = λ ds. IsNumeral 10 ds × (digits_value 10 ds < 2 ^ 32) → ⊥ in
    let none = subst P (no_plus text h) refused in
    elim (cases_lt (digits_value 10 text) (2 ^ 32)) [
      | inl small ↦ absurd (none (numeral text h, small))
      | inr past ↦ (let over : last_number < digits_value 10 text = omega arith in rw (h, lt-leb (digits_value 10 text) last_number over) refl)
    ]

-- How the texts of amounts are read: the digits of one end at its letter, and no other letter is
-- taken for it.
use Rattle.std.proofs.Common.{◌≡◌, ◌≢◌, ℕ, ◌+◌, ◌<◌, ◌≤◌, true, false, cond, not, ◌==◌, List, [], ◌∷◌, ◌++◌, length, take, drop, get_or, position, Option, Some, None, refl, sym, ap, ◌∙◌, append_assoc, length-append, length-drop, take_all, ◌-◌, arith, eq-eqb, ne_eqb, lt-ltb, add-one}
use Rattle.std.specs.Char.{is_ascii_digit}
use Rattle.std.specs.List.{list_all, prefix_len}
use Rattle.std.specs.Str.Parse.{digits_value}
use Rattle.std.proofs.Math.Seq.{split_at, take-append_seam}
use Rattle.std.proofs.lemmas.Bool.{and_parts}
use Rattle.std.proofs.lemmas.Bool.Decides.{nat_tests}
use Rattle.std.proofs.lemmas.List.{append_cancel_left}
use Rattle.std.proofs.lemmas.List.Quantifiers.{position-Some}
use Rattle.ht_base.specs.Numbers.{IsNumber}
use Rattle.ht_base.specs.Periods.{Begins, IsAmount, amount, amount_text}
use Rattle.ht_base.proofs.Digits.{digits_of, number_small}

-- ---- the first place of a letter

digit_low : (b : ℕ) → is_ascii_digit b ≡ true → b ≤ 57
digit_low b h = grind (arith, nat_tests)

before : (letter : ℕ) (digits behind : List ℕ) → 58 ≤ letter → list_all is_ascii_digit digits ≡ true
    → prefix_len (λ b. not (b == letter)) (digits ++ letter ∷ behind) ≡ length digits
before letter [] behind high digits = ap (λ b. cond (not b) (1 + prefix_len (λ b. not (b == letter)) behind) 0) (eq-eqb letter letter refl)
before letter (d ∷ ds) behind high digits =
    let parts = and_parts (is_ascii_digit d) (list_all is_ascii_digit ds) digits in
    let low = digit_low d parts.0 in
    let other : d ≢ letter = omega arith in
    let rest = before letter ds behind high parts.1 in
    ap (λ b. cond (not b) (1 + prefix_len (λ b. not (b == letter)) (ds ++ letter ∷ behind)) 0) (ne_eqb d letter other) ∙ omega arith

place : (letter : ℕ) (digits behind : List ℕ) → 58 ≤ letter → IsNumber digits
    → position (λ b. b == letter) (digits ++ letter ∷ behind) ≡ Some (length digits)
place letter digits behind high is =
    let at = before letter digits behind high (digits_of digits is) in
    let within : length digits < length (digits ++ letter ∷ behind) = omega (arith, length-append {A = ℕ}) in
    rw (at, lt-ltb (length digits) (length (digits ++ letter ∷ behind)) within) refl

-- ---- an amount is read

pub reads_to_end : (letter : ℕ) (bytes : List ℕ) (end value : ℕ) → 58 ≤ letter → position (λ b. b == letter) bytes ≡ Some end
    → IsNumber (take end bytes) × (value ≡ digits_value 10 (take end bytes)) → Begins letter bytes value (drop (end + 1) bytes)
reads_to_end letter bytes end value high at number =
    let found = position-Some (λ b. b == letter) bytes end 0 at in
    let last : get_or bytes end 0 ≡ letter = grind (arith, nat_tests, found.1) in
    let split : bytes ≡ take end bytes ++ letter ∷ drop (end + 1) bytes =
    rw (add-one, ← last) (split_at bytes end 0 found.0) in
    record {
      read = Some (take end bytes);
      is = number.0;
      split = split ∙ sym (append_assoc (take end bytes) (letter ∷ []) (drop (end + 1) bytes));
      value_is = number.1;
      all = λ digits behind n e.
          let first : position (λ b. b == letter) bytes ≡ Some (length digits) = rw e (place letter digits behind high n) in
          let same : end ≡ length digits = cc in
          ap Some (rw (same, e) (take-append_seam digits (letter ∷ behind)));
    }

pub reads_amount : (letter : ℕ) (bytes : List ℕ) (end value : ℕ) → 58 ≤ letter → position (λ b. b == letter) bytes ≡ Some end
    → IsNumber (take end bytes) × (value ≡ digits_value 10 (take end bytes)) → Begins letter bytes value (take (length bytes - (end + 1)) (drop (end + 1) bytes))
reads_amount letter bytes end value high at number =
    let all_left : take (length bytes - (end + 1)) (drop (end + 1) bytes) ≡ drop (end + 1) bytes = take_all (length bytes - (end + 1)) (drop (end + 1) bytes) (omega (arith, length-drop {A = ℕ})) in
    rw all_left (reads_to_end letter bytes end value high at number)

pub reads_none : (letter : ℕ) (bytes : List ℕ) → 58 ≤ letter → position (λ b. b == letter) bytes ≡ None → Begins letter bytes 0 bytes
reads_none letter bytes high at = record {
  read = None;
  is = tt;
  split = refl;
  value_is = refl;
  all = λ digits behind n e.
      let first : position (λ b. b == letter) bytes ≡ Some (length digits) = rw e (place letter digits behind high n) in
      absurd cc;
}

pub reads_no_number : (letter : ℕ) (bytes : List ℕ) (end : ℕ) → 58 ≤ letter → position (λ b. b == letter) bytes ≡ Some end
    → (IsNumber (take end bytes) → ⊥) → Begins letter bytes 0 bytes
reads_no_number letter bytes end high at number = record {
  read = None;
  is = tt;
  split = refl;
  value_is = refl;
  all = λ digits behind n e.
      let first : position (λ b. b == letter) bytes ≡ Some (length digits) = rw e (place letter digits behind high n) in
      let same : end ≡ length digits = cc in
      let front : take end bytes ≡ digits = rw (same, e) (take-append_seam digits (letter ∷ behind)) in
      absurd (number (rw front n));
}

-- ---- which amount a text begins with

-- the first byte that is no digit, or 0
pub mark : List ℕ → ℕ
mark [] = 0
mark (b ∷ bs) = cond (is_ascii_digit b) (mark bs) b

mark_behind : (letter : ℕ) (digits behind : List ℕ) → 58 ≤ letter → list_all is_ascii_digit digits ≡ true → mark (digits ++ letter ∷ behind) ≡ letter
unfolding mark
mark_behind letter [] behind high digits =
    let no_digit : is_ascii_digit letter ≡ false = grind (arith, nat_tests) in
    ap (λ b. cond b (mark behind) letter) no_digit
mark_behind letter (d ∷ ds) behind high digits =
    let parts = and_parts (is_ascii_digit d) (list_all is_ascii_digit ds) digits in
    ap (λ b. cond b (mark (ds ++ letter ∷ behind)) d) parts.0 ∙ mark_behind letter ds behind high parts.1

-- an amount of another letter is not taken for one of this
pub passes : (letter other : ℕ) (a : Option (List ℕ)) (tail : List ℕ) → IsAmount a → 58 ≤ other → other ≢ letter → mark tail ≢ letter
    → mark (amount_text other a ++ tail) ≢ letter
passes letter other None tail is high differ next = next
passes letter other (Some digits) tail is high differ next =
    λ e. differ (sym (mark_behind other digits tail high (digits_of digits is)) ∙ ap mark (sym (append_assoc digits (other ∷ []) tail)) ∙ e)

pub mark_nothing : (letter : ℕ) → 58 ≤ letter → mark [] ≢ letter
unfolding mark
mark_nothing letter high e = absurd (omega arith)

-- a letter is no digit
pub mark_letter : (letter other : ℕ) (tail : List ℕ) → 58 ≤ other → other ≢ letter → mark (other ∷ tail) ≢ letter
mark_letter letter other tail high differ e = differ (sym (mark_behind other [] tail high refl) ∙ e)

-- what is read at the front is the amount that stands there
pub is_read : (letter : ℕ) (bytes : List ℕ) (value : ℕ) (rest : List ℕ) (a : Option (List ℕ)) (tail : List ℕ) → 58 ≤ letter → Begins letter bytes value rest
    → IsAmount a → bytes ≡ amount_text letter a ++ tail → (a ≡ None → mark tail ≢ letter) → (rest ≡ tail) × (value ≡ amount a)
is_read letter bytes value rest a tail high begins is text next = by a begins.read begins.is begins.split begins.value_is begins.all is text next
  where
    by : (a read : Option (List ℕ)) → IsAmount read → bytes ≡ amount_text letter read ++ rest → value ≡ amount read
        → ((digits behind : List ℕ) → IsNumber digits → bytes ≡ digits ++ letter ∷ behind → read ≡ Some digits)
        → IsAmount a → bytes ≡ amount_text letter a ++ tail → (a ≡ None → mark tail ≢ letter) → (rest ≡ tail) × (value ≡ amount a)
    by (Some digits) read is_amount split value_is all is text next =
        let same = all digits tail is (text ∙ append_assoc digits (letter ∷ []) tail) in
        (append_cancel_left (amount_text letter (Some digits)) rest tail (ap (λ r. amount_text letter r ++ rest) (sym same) ∙ sym split ∙ text), value_is ∙ ap amount same)
    by None None is_amount split value_is all is text next = (sym split ∙ text, value_is)
    by None (Some digits) is_amount split value_is all is text next =
        absurd (next refl (ap mark (sym text ∙ split ∙ append_assoc digits (letter ∷ []) rest) ∙ mark_behind letter digits rest high (digits_of digits is_amount)))

pub amount_small : (a : Option (List ℕ)) → IsAmount a → amount a ≤ 999999
amount_small None is = omega arith
amount_small (Some digits) is = number_small digits is

pub small : (letter : ℕ) (bytes : List ℕ) (value : ℕ) (rest : List ℕ) → Begins letter bytes value rest → value ≤ 999999
small letter bytes value rest begins = let most = amount_small begins.read begins.is in let is = begins.value_is in omega arith

-- The tokens of a text in UTF-8 can be written.
use Rattle.std.proofs.Common.{◌≡◌, ℕ, zero, suc, ◌+◌, ◌<◌, Bool, true, List, [], ◌∷◌, ◌++◌, length, replicate, refl, ap, subst, ◌∙◌, arith, append_assoc}
use Rattle.std.specs.Prelude.{◌==◌, not}
use Rattle.std.specs.Char.{is_ascii_alphabetic, is_ascii_digit}
use Rattle.std.specs.List.{list_all}
use Rattle.std.specs.Str.{IsAscii, IsUtf8}
use Rattle.std.proofs.lemmas.Bool.{and_parts}
use Rattle.std.proofs.lemmas.Bool.Decides.{nat_tests}
use Rattle.std.proofs.lemmas.List.{length-append}
use Rattle.std.proofs.lemmas.Str.{IsUtf8-take, IsUtf8-drop, IsCharBoundary-after_ascii, IsCharBoundary-before_ascii}
use Rattle.std.proofs.Math.Seq.{take-append_seam, drop-append_seam, get_or-append_seam}
use Rattle.ht_expr.specs.declared.token.Mark.{Mark}
use Rattle.ht_expr.specs.declared.token.Mark.TheVariants.{Open, Close, Comma, Dot, Plus, Minus, Times, Equal, NotEqual, Less, LessOrEqual, Greater, GreaterOrEqual}
use Rattle.ht_expr.specs.Reading.{bare, AreWritable, IsWritable}
use Rattle.ht_expr.specs.Tokens.{Token, Placed, number, quoted, word, mark, mark_bytes, blank, begins, is_digits, is_word_byte, quotation_mark, Spells, AreBefore, AreTokens}

-- behind a byte below 128
behind_one : (b : ℕ) (rest : List ℕ) → b < 128 → IsUtf8 (b ∷ rest) → IsUtf8 rest
behind_one b rest low utf8 = IsUtf8-drop (b ∷ rest) 1 utf8 (IsCharBoundary-after_ascii (b ∷ rest) 0 utf8 (omega arith) low)

-- and behind several
behind_low : (test : ℕ → Bool) (bs rest : List ℕ) → ((b : ℕ) → test b ≡ true → b < 128) → list_all test bs ≡ true → IsUtf8 (bs ++ rest) → IsUtf8 rest
behind_low test [] rest low all utf8 = utf8
behind_low test (b ∷ bs) rest low all utf8 = let parts = and_parts (test b) (list_all test bs) all in behind_low test bs rest low parts.1 (behind_one b (bs ++ rest) (low b parts.0) utf8)

-- bytes below 128 are UTF-8
pub low_ascii : (test : ℕ → Bool) (bs : List ℕ) → ((b : ℕ) → test b ≡ true → b < 128) → list_all test bs ≡ true → IsAscii bs
low_ascii test [] low all i = omega arith
low_ascii test (b ∷ bs) low all zero = let parts = and_parts (test b) (list_all test bs) all in low b parts.0
low_ascii test (b ∷ bs) low all (suc i) = let parts = and_parts (test b) (list_all test bs) all in low_ascii test bs low parts.1 i

low_digit : (b : ℕ) → is_ascii_digit b ≡ true → b < 128
low_digit b h = grind (arith, nat_tests)

pub low_word : (b : ℕ) → is_word_byte b ≡ true → b < 128
low_word b h = grind (arith, nat_tests)

low_blank : (b : ℕ) → (b == blank) ≡ true → b < 128
low_blank b h = grind (arith, nat_tests)

blanks_pass : (n : ℕ) → list_all (λ b. b == blank) (replicate n blank) ≡ true
blanks_pass zero = refl
blanks_pass (suc n) = blanks_pass n

-- before a byte below 128, and behind it
around : (x rest : List ℕ) (c : ℕ) → c < 128 → IsUtf8 (x ++ (c ∷ rest)) → IsUtf8 x × IsUtf8 rest
around x rest c low utf8 =
    let cut = IsCharBoundary-before_ascii (x ++ (c ∷ rest)) (length x) (omega (arith, length-append x (c ∷ rest))) (rw (get_or-append_seam x c rest 0) low) in (
      subst IsUtf8 (take-append_seam x (c ∷ rest)) (IsUtf8-take (x ++ (c ∷ rest)) (length x) utf8 cut),
      behind_one c rest low (subst IsUtf8 (drop-append_seam x (c ∷ rest)) (IsUtf8-drop (x ++ (c ∷ rest)) (length x) utf8 cut)),
    )

behind_mark : (m : Mark) (rest : List ℕ) → IsUtf8 (mark_bytes m ++ rest) → IsUtf8 rest
behind_mark Open rest utf8 = behind_one _ rest (omega arith) utf8
behind_mark Close rest utf8 = behind_one _ rest (omega arith) utf8
behind_mark Comma rest utf8 = behind_one _ rest (omega arith) utf8
behind_mark Dot rest utf8 = behind_one _ rest (omega arith) utf8
behind_mark Plus rest utf8 = behind_one _ rest (omega arith) utf8
behind_mark Minus rest utf8 = behind_one _ rest (omega arith) utf8
behind_mark Times rest utf8 = behind_one _ rest (omega arith) utf8
behind_mark Equal rest utf8 = behind_one _ rest (omega arith) (behind_one _ (61 ∷ rest) (omega arith) utf8)
behind_mark NotEqual rest utf8 = behind_one _ rest (omega arith) (behind_one _ (61 ∷ rest) (omega arith) utf8)
behind_mark Less rest utf8 = behind_one _ rest (omega arith) utf8
behind_mark LessOrEqual rest utf8 = behind_one _ rest (omega arith) (behind_one _ (61 ∷ rest) (omega arith) utf8)
behind_mark Greater rest utf8 = behind_one _ rest (omega arith) utf8
behind_mark GreaterOrEqual rest utf8 = behind_one _ rest (omega arith) (behind_one _ (61 ∷ rest) (omega arith) utf8)

-- a token of a text in UTF-8
one_written : (t : Token) (bytes rest : List ℕ) → Spells t bytes rest → IsUtf8 (bytes ++ rest) → IsWritable t × IsUtf8 rest
one_written (number n) bytes rest s utf8 =
    let parts = and_parts (is_digits bytes) (not (begins is_ascii_digit rest)) s.0 in
    let digits = and_parts (begins is_ascii_digit bytes) (list_all is_ascii_digit bytes) parts.0 in
    (s.2, behind_low is_ascii_digit bytes rest low_digit digits.1 utf8)
one_written (quoted x) bytes rest s utf8 =
    let spelled : bytes ++ rest ≡ quotation_mark ∷ (x ++ (quotation_mark ∷ rest)) = ap (λ l. l ++ rest) s.0 ∙ ap (λ l. quotation_mark ∷ l) (append_assoc x (quotation_mark ∷ []) rest) in
    let inside = around x rest quotation_mark (omega arith) (behind_one quotation_mark (x ++ (quotation_mark ∷ rest)) (omega arith) (subst IsUtf8 spelled utf8)) in
    ((inside.0, s.1), inside.1)
one_written (word w) bytes rest s utf8 =
    let parts = and_parts (begins is_ascii_alphabetic w) (list_all is_word_byte w) s.1 in
    (s.1, behind_low is_word_byte w rest low_word parts.1 (subst (λ l. IsUtf8 (l ++ rest)) s.0 utf8))
one_written (mark m) bytes rest s utf8 = (tt, behind_mark m rest (subst (λ l. IsUtf8 (l ++ rest)) s utf8))

before_written : (at : ℕ) (bytes : List ℕ) (ts : List Placed) (rest : List ℕ) → IsUtf8 bytes → AreBefore at bytes ts rest → AreWritable (bare ts)
before_written at bytes [] rest utf8 before = tt
before_written at bytes (t ∷ ts) rest utf8 (blanks, spelled, behind, split, place, first, more) =
    let here = behind_low (λ b. b == blank) (replicate blanks blank) (spelled ++ behind) low_blank (blanks_pass blanks) (subst IsUtf8 split utf8) in
    let one = one_written t.token spelled behind first.spelled here in
    (one.0, before_written (at + blanks + length spelled) behind ts rest one.1 more)

pub text_written : (text : List ℕ) (ts : List Placed) → IsUtf8 text → AreTokens text ts → AreWritable (bare ts)
text_written text ts utf8 has = before_written 0 text ts (replicate has.0 blank) utf8 has.1

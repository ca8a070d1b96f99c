-- Which token a text begins with.
use Rattle.std.proofs.Common.{◌≡◌, ℕ, ◌+◌, ◌<◌, ◌≤◌, Bool, true, false, List, [], ◌∷◌, ◌++◌, length, drop, refl, ap, sym, subst, ◌∙◌, arith, ⊎_elim, Option, Some, None, Result, Ok, Err, rules}
use Rattle.std.specs.Prelude.{◌≢◌, ◌==◌, not, MatchOption}
use Rattle.std.specs.Borrow.{Bor}
use Rattle.std.specs.Result.{result_ok}
use Rattle.std.specs.Str.Parse.{ParsesUnsigned}
use Rattle.std.proofs.lemmas.Str.Parse.{IsDigitsTest, IsNumeralModel, numerals_by_value, parse_digits}
use Rattle.std.specs.Char.{is_ascii_alphabetic, is_ascii_digit}
use Rattle.std.specs.List.{list_all}
use Rattle.std.specs.Str.Parse.{digits_value}
use Rattle.std.proofs.lemmas.Bool.{and_from, and_parts, both_ways, not-true, not_from_false, false≢true, false_from_ne_true, eqb-true, cases_lt}
use Rattle.std.proofs.lemmas.Bool.Decides.{nat_tests}
use Rattle.std.proofs.lemmas.List.{append_assoc, length-append}
use Rattle.std.proofs.lemmas.Str.{IsCharBoundary-after_ascii}
use Rattle.std.specs.Str.{IsUtf8, IsCharBoundary}
use Rattle.ht_expr.specs.declared.token.Mark.{Mark}
use Rattle.ht_expr.specs.declared.token.Mark.TheVariants.{Open, Close, Comma, Dot, Plus, Minus, Times, Equal, NotEqual, Less, LessOrEqual, Greater, GreaterOrEqual}
use Rattle.ht_expr.specs.Tokens.{Token, number, quoted, word, mark, mark_bytes, begins, is_digits, is_text_byte, is_word_byte, quotation_mark, greatest_number, Spells, IsFirst, NoneFirst}
use Rattle.ht_expr.specs.Scanning.{IsRun, begins_mark, mark_in}

-- what a token of this sort begins with
abbrev pub sort : Token → ℕ → Bool
sort (number n) b = is_ascii_digit b
sort (quoted t) b = b == quotation_mark
sort (word w) b = is_ascii_alphabetic b
sort (mark m) b = begins_mark b

pub begins_on : (test : ℕ → Bool) (bs rest : List ℕ) → begins test bs ≡ true → begins test (bs ++ rest) ≡ true
begins_on test [] rest h = absurd (false≢true h)
begins_on test (b ∷ bs) rest h = h

mark_begins : (m : Mark) → begins begins_mark (mark_bytes m) ≡ true
mark_begins Open = refl
mark_begins Close = refl
mark_begins Comma = refl
mark_begins Dot = refl
mark_begins Plus = refl
mark_begins Minus = refl
mark_begins Times = refl
mark_begins Equal = refl
mark_begins NotEqual = refl
mark_begins Less = refl
mark_begins LessOrEqual = refl
mark_begins Greater = refl
mark_begins GreaterOrEqual = refl

pub spelled_begins : (t : Token) (bs rest : List ℕ) → Spells t bs rest → begins (sort t) bs ≡ true
spelled_begins (number n) bs rest s =
    let parts = and_parts (is_digits bs) (not (begins is_ascii_digit rest)) s.0 in
    let digits = and_parts (begins is_ascii_digit bs) (list_all is_ascii_digit bs) parts.0 in digits.0
spelled_begins (quoted t) bs rest s = ap (begins (λ b. b == quotation_mark)) s.0
spelled_begins (word w) bs rest s =
    let parts = and_parts (begins is_ascii_alphabetic w) (list_all is_word_byte w) s.1 in ap (begins is_ascii_alphabetic) s.0 ∙ parts.0
spelled_begins (mark m) bs rest s = ap (begins begins_mark) s ∙ mark_begins m

text_begins : (t : Token) (text bs rest : List ℕ) → text ≡ bs ++ rest → Spells t bs rest → begins (sort t) text ≡ true
text_begins t text bs rest is s = ap (begins (sort t)) is ∙ begins_on (sort t) bs rest (spelled_begins t bs rest s)

pub clash : (p q : ℕ → Bool) (bs : List ℕ) → ((b : ℕ) → p b ≡ true → q b ≡ true → ⊥) → begins p bs ≡ true → begins q bs ≡ true → ⊥
clash p q [] apart h k = false≢true h
clash p q (b ∷ bs) apart h k = apart b h k

abbrev pub quote : ℕ → Bool
quote b = b == quotation_mark

pub digit_no_quote : (b : ℕ) → is_ascii_digit b ≡ true → quote b ≡ true → ⊥
digit_no_quote b h k = grind (arith, nat_tests)

pub digit_no_letter : (b : ℕ) → is_ascii_digit b ≡ true → is_ascii_alphabetic b ≡ true → ⊥
digit_no_letter b h k = grind (arith, nat_tests)

pub letter_no_quote : (b : ℕ) → is_ascii_alphabetic b ≡ true → quote b ≡ true → ⊥
letter_no_quote b h k = grind (arith, nat_tests)

pub digit_no_mark : (b : ℕ) → is_ascii_digit b ≡ true → begins_mark b ≡ true → ⊥
digit_no_mark b h k = grind (arith, nat_tests)

pub letter_no_mark : (b : ℕ) → is_ascii_alphabetic b ≡ true → begins_mark b ≡ true → ⊥
letter_no_mark b h k = grind (arith, nat_tests)

pub quote_no_mark : (b : ℕ) → quote b ≡ true → begins_mark b ≡ true → ⊥
quote_no_mark b h k = grind (arith, nat_tests)

-- a run is as long as can be
longest : (test : ℕ → Bool) (run rest b r : List ℕ) → begins test rest ≡ false → list_all test b ≡ true → run ++ rest ≡ b ++ r → length b ≤ length run
longest test run rest [] r stops all is = omega arith
longest test [] rest (x ∷ b) r stops all is =
    let parts = and_parts (test x) (list_all test b) all in
    let here : begins test rest ≡ test x = ap (begins test) is in
    absurd (both_ways (begins test rest) stops (here ∙ parts.0))
longest test (y ∷ run) rest (x ∷ b) r stops all is =
    let parts = and_parts (test x) (list_all test b) all in
    let le = longest test run rest b r stops parts.1 (ap (drop 1) is) in omega arith

-- and there is one
pub same_run : (test : ℕ → Bool) (run rest b r : List ℕ) → begins test rest ≡ false → begins test r ≡ false → list_all test run ≡ true → list_all test b ≡ true
    → run ++ rest ≡ b ++ r → (run ≡ b) × (rest ≡ r)
same_run test [] rest [] r stops ends all each is = (refl, is)
same_run test [] rest (x ∷ b) r stops ends all each is =
    let parts = and_parts (test x) (list_all test b) each in
    let here : begins test rest ≡ test x = ap (begins test) is in
    absurd (both_ways (begins test rest) stops (here ∙ parts.0))
same_run test (y ∷ run) rest [] r stops ends all each is =
    let parts = and_parts (test y) (list_all test run) all in
    let here : begins test r ≡ test y = sym (ap (begins test) is) in
    absurd (both_ways (begins test r) ends (here ∙ parts.0))
same_run test (y ∷ run) rest (x ∷ b) r stops ends all each is =
    let ones = and_parts (test y) (list_all test run) all in
    let others = and_parts (test x) (list_all test b) each in
    let tails = same_run test run rest b r stops ends ones.1 others.1 (ap (drop 1) is) in
    let heads : y ≡ x = cc in
    let same = tails.0 in
    (cc, tails.1)

-- a run begins with what its text begins with
run_begins : (test : ℕ → Bool) (text run rest : List ℕ) → IsRun test text run rest → begins test text ≡ true → begins test run ≡ true
run_begins test text [] rest is h = absurd (both_ways (begins test rest) is.stops (sym (ap (begins test) is.split) ∙ h))
run_begins test text (x ∷ run) rest is h = sym (ap (begins test) is.split) ∙ h

pub run_digits : (text run rest : List ℕ) → IsRun is_ascii_digit text run rest → begins is_ascii_digit text ≡ true → is_digits run ≡ true
run_digits text run rest is h = and_from (begins is_ascii_digit run) (list_all is_ascii_digit run) (run_begins is_ascii_digit text run rest is h) is.inside

number_longest : (text run rest : List ℕ) → IsRun is_ascii_digit text run rest → begins is_ascii_digit text ≡ true
    → (t : Token) (b r : List ℕ) → run ++ rest ≡ b ++ r → Spells t b r → length b ≤ length run
number_longest text run rest is h (number m) b r e s =
    let parts = and_parts (is_digits b) (not (begins is_ascii_digit r)) s.0 in
    let digits = and_parts (begins is_ascii_digit b) (list_all is_ascii_digit b) parts.0 in
    longest is_ascii_digit run rest b r is.stops digits.1 e
number_longest text run rest is h (quoted t) b r e s =
    absurd (clash is_ascii_digit quote text digit_no_quote h (text_begins (quoted t) text b r (is.split ∙ e) s))
number_longest text run rest is h (word w) b r e s =
    absurd (clash is_ascii_digit is_ascii_alphabetic text digit_no_letter h (text_begins (word w) text b r (is.split ∙ e) s))
number_longest text run rest is h (mark m) b r e s =
    absurd (clash is_ascii_digit begins_mark text digit_no_mark h (text_begins (mark m) text b r (is.split ∙ e) s))

-- digits of a small number are a token
pub first_number : (text run rest : List ℕ) (n : ℕ) → IsRun is_ascii_digit text run rest → begins is_ascii_digit text ≡ true
    → digits_value 10 run ≡ n → n ≤ greatest_number → IsFirst (number n) run rest
first_number text run rest n is h value small = record {
  spelled = (and_from (is_digits run) (not (begins is_ascii_digit rest)) (run_digits text run rest is h) (not_from_false (begins is_ascii_digit rest) is.stops), value, small);
  longest = number_longest text run rest is h;
}

-- digits of a number that is too great are none
pub no_number : (text run rest : List ℕ) → IsRun is_ascii_digit text run rest → begins is_ascii_digit text ≡ true
    → greatest_number < digits_value 10 run → NoneFirst text
no_number text run rest is h great (number m) b r e s =
    let parts = and_parts (is_digits b) (not (begins is_ascii_digit r)) s.0 in
    let digits = and_parts (begins is_ascii_digit b) (list_all is_ascii_digit b) parts.0 in
    let same = same_run is_ascii_digit run rest b r is.stops (not-true (begins is_ascii_digit r) parts.1) is.inside digits.1 (sym is.split ∙ e) in
    let value : digits_value 10 run ≡ m = ap (digits_value 10) same.0 ∙ s.1 in
    let small = s.2 in omega arith
no_number text run rest is h great (quoted t) b r e s =
    clash is_ascii_digit quote text digit_no_quote h (text_begins (quoted t) text b r e s)
no_number text run rest is h great (word w) b r e s =
    clash is_ascii_digit is_ascii_alphabetic text digit_no_letter h (text_begins (word w) text b r e s)
no_number text run rest is h great (mark m) b r e s =
    clash is_ascii_digit begins_mark text digit_no_mark h (text_begins (mark m) text b r e s)

word_longest : (text run rest : List ℕ) → IsRun is_word_byte text run rest → begins is_ascii_alphabetic text ≡ true
    → (t : Token) (b r : List ℕ) → run ++ rest ≡ b ++ r → Spells t b r → length b ≤ length run
word_longest text run rest is h (word w) b r e s =
    let parts = and_parts (begins is_ascii_alphabetic w) (list_all is_word_byte w) s.1 in
    longest is_word_byte run rest b r is.stops (ap (list_all is_word_byte) s.0 ∙ parts.1) e
word_longest text run rest is h (number m) b r e s =
    absurd (clash is_ascii_digit is_ascii_alphabetic text digit_no_letter (text_begins (number m) text b r (is.split ∙ e) s) h)
word_longest text run rest is h (quoted t) b r e s =
    absurd (clash is_ascii_alphabetic quote text letter_no_quote h (text_begins (quoted t) text b r (is.split ∙ e) s))
word_longest text run rest is h (mark m) b r e s =
    absurd (clash is_ascii_alphabetic begins_mark text letter_no_mark h (text_begins (mark m) text b r (is.split ∙ e) s))

letter_in_word : (b : ℕ) → is_ascii_alphabetic b ≡ true → is_word_byte b ≡ false → ⊥
letter_in_word b h k = grind (arith, nat_tests)

letter_leads : (text run rest : List ℕ) → IsRun is_word_byte text run rest → begins is_ascii_alphabetic text ≡ true → begins is_ascii_alphabetic run ≡ true
letter_leads text [] [] is h = absurd (false≢true (sym (ap (begins is_ascii_alphabetic) is.split) ∙ h))
letter_leads text [] (x ∷ rest) is h = absurd (letter_in_word x (sym (ap (begins is_ascii_alphabetic) is.split) ∙ h) is.stops)
letter_leads text (x ∷ run) rest is h = sym (ap (begins is_ascii_alphabetic) is.split) ∙ h

-- a letter, and what a word goes on with, are a token
pub first_word : (text run rest : List ℕ) → IsRun is_word_byte text run rest → begins is_ascii_alphabetic text ≡ true → IsFirst (word run) run rest
first_word text run rest is h = record {
  spelled = (refl, and_from (begins is_ascii_alphabetic run) (list_all is_word_byte run) (letter_leads text run rest is h) is.inside);
  longest = word_longest text run rest is h;
}

-- how many bytes a text between quotation marks takes
quoted_length : (t : List ℕ) → length (quotation_mark ∷ (t ++ quotation_mark ∷ [])) ≡ length t + 2
quoted_length t = omega (arith, length-append t (quotation_mark ∷ []))

-- a text between quotation marks ends at the first of them
same_quoted : (text inside run tail b r t : List ℕ) → text ≡ quotation_mark ∷ inside → IsRun is_text_byte inside run tail
    → text ≡ b ++ r → Spells (quoted t) b r → (run ≡ t) × (tail ≡ quotation_mark ∷ r)
same_quoted text inside run tail b r t opens is e s =
    let spelled : text ≡ quotation_mark ∷ ((t ++ quotation_mark ∷ []) ++ r) = e ∙ ap (λ l. l ++ r) s.0 in
    let within : inside ≡ t ++ (quotation_mark ∷ r) = ap (drop 1) (sym opens ∙ spelled) ∙ append_assoc t (quotation_mark ∷ []) r in
    same_run is_text_byte run tail t (quotation_mark ∷ r) is.stops refl is.inside s.1 (sym is.split ∙ within)

quoted_longest : (text inside run rest : List ℕ) → text ≡ quotation_mark ∷ inside → IsRun is_text_byte inside run (quotation_mark ∷ rest)
    → (t : Token) (b r : List ℕ) → text ≡ b ++ r → Spells t b r → length b ≤ length run + 2
quoted_longest text inside run rest opens is (quoted t) b r e s =
    let same = same_quoted text inside run (quotation_mark ∷ rest) b r t opens is e s in
    let len : length b ≡ length run + 2 = ap length s.0 ∙ quoted_length t ∙ ap (λ l. length l + 2) (sym same.0) in omega arith
quoted_longest text inside run rest opens is (number m) b r e s =
    absurd (clash is_ascii_digit quote text digit_no_quote (text_begins (number m) text b r e s) (ap (begins quote) opens))
quoted_longest text inside run rest opens is (word w) b r e s =
    absurd (clash is_ascii_alphabetic quote text letter_no_quote (text_begins (word w) text b r e s) (ap (begins quote) opens))
quoted_longest text inside run rest opens is (mark m) b r e s =
    absurd (clash quote begins_mark text quote_no_mark (ap (begins quote) opens) (text_begins (mark m) text b r e s))

-- two quotation marks with nothing but text between them are a token
pub first_quoted : (text inside run rest : List ℕ) → text ≡ quotation_mark ∷ inside → IsRun is_text_byte inside run (quotation_mark ∷ rest)
    → (text ≡ (quotation_mark ∷ (run ++ quotation_mark ∷ [])) ++ rest) × IsFirst (quoted run) (quotation_mark ∷ (run ++ quotation_mark ∷ [])) rest
first_quoted text inside run rest opens is =
    let split : text ≡ (quotation_mark ∷ (run ++ quotation_mark ∷ [])) ++ rest = opens ∙ ap (λ l. quotation_mark ∷ l) (is.split ∙ sym (append_assoc run (quotation_mark ∷ []) rest)) in (
      split,
      record {
        spelled = (refl, is.inside);
        longest = λ t b r e s. let le = quoted_longest text inside run rest opens is t b r (split ∙ e) s in let len = quoted_length run in omega arith;
      },
    )

-- a quotation mark alone is none
pub no_quoted : (text inside run rest : List ℕ) → text ≡ quotation_mark ∷ inside → IsRun is_text_byte inside run rest
    → begins quote rest ≡ false → NoneFirst text
no_quoted text inside run rest opens is unclosed (quoted t) b r e s =
    let same = same_quoted text inside run rest b r t opens is e s in both_ways (begins quote rest) unclosed (ap (begins quote) same.1)
no_quoted text inside run rest opens is unclosed (number m) b r e s =
    clash is_ascii_digit quote text digit_no_quote (text_begins (number m) text b r e s) (ap (begins quote) opens)
no_quoted text inside run rest opens is unclosed (word w) b r e s =
    clash is_ascii_alphabetic quote text letter_no_quote (text_begins (word w) text b r e s) (ap (begins quote) opens)
no_quoted text inside run rest opens is unclosed (mark m) b r e s =
    clash quote begins_mark text quote_no_mark (ap (begins quote) opens) (text_begins (mark m) text b r e s)

some_same : (m k : Mark) → Some m ≡ Some k → m ≡ k
some_same m k e = cc

none_some : (m : Mark) → None ≡ Some m → ⊥
none_some m e = cc

-- the mark that is found is at least as long as any that stands there
abbrev FindsMark : Mark → List ℕ → Type 0
FindsMark m bs = (found : Mark) × (mark_in bs ≡ Some found) × (length (mark_bytes m) ≤ length (mark_bytes found))

finds_less : (rest : List ℕ) (b : Bool) → begins (λ c. c == 61) rest ≡ b → FindsMark Less (mark_bytes Less ++ rest)
finds_less rest true h = (LessOrEqual, rw h refl, omega arith)
finds_less rest false h = (Less, rw h refl, omega arith)

finds_greater : (rest : List ℕ) (b : Bool) → begins (λ c. c == 61) rest ≡ b → FindsMark Greater (mark_bytes Greater ++ rest)
finds_greater rest true h = (GreaterOrEqual, rw h refl, omega arith)
finds_greater rest false h = (Greater, rw h refl, omega arith)

finds_mark : (m : Mark) (rest : List ℕ) → FindsMark m (mark_bytes m ++ rest)
finds_mark Open rest = (Open, refl, omega arith)
finds_mark Close rest = (Close, refl, omega arith)
finds_mark Comma rest = (Comma, refl, omega arith)
finds_mark Dot rest = (Dot, refl, omega arith)
finds_mark Plus rest = (Plus, refl, omega arith)
finds_mark Minus rest = (Minus, refl, omega arith)
finds_mark Times rest = (Times, refl, omega arith)
finds_mark Equal rest = (Equal, refl, omega arith)
finds_mark NotEqual rest = (NotEqual, refl, omega arith)
finds_mark Less rest = finds_less rest _ refl
finds_mark LessOrEqual rest = (LessOrEqual, refl, omega arith)
finds_mark Greater rest = finds_greater rest _ refl
finds_mark GreaterOrEqual rest = (GreaterOrEqual, refl, omega arith)

mark_longest : (m : Mark) (text : List ℕ) → mark_in text ≡ Some m → begins begins_mark text ≡ true
    → (t : Token) (b r : List ℕ) → text ≡ b ++ r → Spells t b r → length b ≤ length (mark_bytes m)
mark_longest m text found h (mark other) b r e s =
    let most = finds_mark other r in
    let here : text ≡ mark_bytes other ++ r = e ∙ ap (λ l. l ++ r) s in
    let same : m ≡ most.0 = some_same m most.0 (sym found ∙ ap mark_in here ∙ most.1) in
    let le = most.2 in
    let len : length b ≡ length (mark_bytes other) = ap length s in
    let end : length (mark_bytes m) ≡ length (mark_bytes most.0) = ap (λ k. length (mark_bytes k)) same in omega arith
mark_longest m text found h (number n) b r e s =
    absurd (clash is_ascii_digit begins_mark text digit_no_mark (text_begins (number n) text b r e s) h)
mark_longest m text found h (word w) b r e s =
    absurd (clash is_ascii_alphabetic begins_mark text letter_no_mark (text_begins (word w) text b r e s) h)
mark_longest m text found h (quoted t) b r e s =
    absurd (clash quote begins_mark text quote_no_mark (text_begins (quoted t) text b r e s) h)

-- the longest mark there is a token
pub first_mark : (m : Mark) (text rest : List ℕ) → mark_in text ≡ Some m → begins begins_mark text ≡ true → text ≡ mark_bytes m ++ rest → IsFirst (mark m) (mark_bytes m) rest
first_mark m text rest found h is = record {
  spelled = refl;
  longest = λ t b r e s. mark_longest m text found h t b r (is ∙ e) s;
}

-- where no mark is, no token is
pub no_mark : (text : List ℕ) → mark_in text ≡ None → begins begins_mark text ≡ true → NoneFirst text
no_mark text none h (mark m) b r e s =
    let found = finds_mark m r in
    none_some found.0 (sym none ∙ ap mark_in (e ∙ ap (λ l. l ++ r) s) ∙ found.1)
no_mark text none h (number n) b r e s =
    clash is_ascii_digit begins_mark text digit_no_mark (text_begins (number n) text b r e s) h
no_mark text none h (word w) b r e s =
    clash is_ascii_alphabetic begins_mark text letter_no_mark (text_begins (word w) text b r e s) h
no_mark text none h (quoted t) b r e s =
    clash quote begins_mark text quote_no_mark (text_begins (quoted t) text b r e s) h

one_ascii : (b : ℕ) (rest : List ℕ) → b < 128 → IsUtf8 (b ∷ rest) → IsCharBoundary (b ∷ rest) 1
one_ascii b rest low utf8 = IsCharBoundary-after_ascii (b ∷ rest) 0 utf8 (omega arith) low

two_ascii : (a b : ℕ) (rest : List ℕ) → b < 128 → IsUtf8 (a ∷ b ∷ rest) → IsCharBoundary (a ∷ b ∷ rest) 2
two_ascii a b rest low utf8 = IsCharBoundary-after_ascii (a ∷ b ∷ rest) 1 utf8 (omega arith) low

cut_behind : (m : Mark) (rest : List ℕ) → IsUtf8 (mark_bytes m ++ rest) → IsCharBoundary (mark_bytes m ++ rest) (length (mark_bytes m))
cut_behind Open rest utf8 = one_ascii _ rest (omega arith) utf8
cut_behind Close rest utf8 = one_ascii _ rest (omega arith) utf8
cut_behind Comma rest utf8 = one_ascii _ rest (omega arith) utf8
cut_behind Dot rest utf8 = one_ascii _ rest (omega arith) utf8
cut_behind Plus rest utf8 = one_ascii _ rest (omega arith) utf8
cut_behind Minus rest utf8 = one_ascii _ rest (omega arith) utf8
cut_behind Times rest utf8 = one_ascii _ rest (omega arith) utf8
cut_behind Equal rest utf8 = two_ascii _ _ rest (omega arith) utf8
cut_behind NotEqual rest utf8 = two_ascii _ _ rest (omega arith) utf8
cut_behind Less rest utf8 = one_ascii _ rest (omega arith) utf8
cut_behind LessOrEqual rest utf8 = two_ascii _ _ rest (omega arith) utf8
cut_behind Greater rest utf8 = one_ascii _ rest (omega arith) utf8
cut_behind GreaterOrEqual rest utf8 = two_ascii _ _ rest (omega arith) utf8

-- a text may be cut behind a mark
pub mark_boundary : (m : Mark) (text rest : List ℕ) → text ≡ mark_bytes m ++ rest → IsUtf8 text → IsCharBoundary text (length (mark_bytes m))
mark_boundary m text rest is utf8 =
    subst (λ l. IsCharBoundary l (length (mark_bytes m))) (sym is) (cut_behind m rest (subst IsUtf8 is utf8))

-- what a strip of the quotation mark tells
pub stripped : (bs : List ℕ) (r : Option (Bor (List ℕ))) → MatchOption r ((rest : List ℕ) → bs ≢ quotation_mark ∷ rest) (λ x. bs ≡ quotation_mark ∷ x.now)
    → MatchOption r (begins quote bs ≡ false) (λ x. bs ≡ quotation_mark ∷ x.now)
stripped bs (Some x) h = h
stripped [] None h = refl
stripped (b ∷ bs) None h = false_from_ne_true (quote b) (λ is. h bs (ap (λ c. c ∷ bs) (eqb-true b quotation_mark is)))

tells_digits : IsDigitsTest (λ ds. list_all is_ascii_digit ds ≡ true)
tells_digits = search rules

pub numerals : IsNumeralModel (λ ds. list_all is_ascii_digit ds ≡ true) (digits_value 10)
numerals = numerals_by_value (λ ds. list_all is_ascii_digit ds ≡ true) tells_digits

some_byte : (bs : List ℕ) → is_digits bs ≡ true → 0 < length bs
some_byte [] h = absurd (false≢true h)
some_byte (b ∷ bs) h = omega arith

-- digits that are no number of 64 bits are too great
pub unparsed : {E : Type 0} (digits : List ℕ) (r : Result ℕ E) → ParsesUnsigned 64 10 digits r → is_digits digits ≡ true → result_ok r ≡ None
    → greatest_number < digits_value 10 digits
unparsed digits (Ok n) h is none = absurd (cc)
unparsed digits (Err e) h is none =
    let parts = and_parts (begins is_ascii_digit digits) (list_all is_ascii_digit digits) is in
    let not = parse_digits numerals 64 digits (Err e) h parts.1 in
    ⊎_elim (λ lt. lt) (λ ge. absurd (not (some_byte digits is, omega arith))) (cases_lt greatest_number (digits_value 10 digits))

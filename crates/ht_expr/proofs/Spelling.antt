-- Each tree whose tokens can be written is what some text is read as: its tokens, with a blank before each.
use Rattle.std.proofs.Common.{◌≡◌, ℕ, ◌+◌, ◌<◌, ◌≤◌, Bool, true, false, List, [], ◌∷◌, ◌++◌, length, refl, ap, sym, subst, arith, Some}
use Rattle.std.specs.Prelude.{◌==◌, ◌^◌, nat_lt}
use Rattle.std.specs.Fmt.{decimal}
use Rattle.std.specs.Char.{is_ascii_alphabetic, is_ascii_digit}
use Rattle.std.specs.List.{list_all}
use Rattle.std.specs.Str.{IsUtf8}
use Rattle.std.proofs.lemmas.Bool.{and_parts, ltb-true}
use Rattle.std.proofs.lemmas.Fmt.{decimal_nonempty, digits_decimal, digits_value-decimal, IsAscii-decimal}
use Rattle.std.proofs.lemmas.List.{length-map}
use Rattle.std.proofs.lemmas.Str.{IsUtf8-append, IsUtf8-from_ascii, IsUtf8-nil}
use Rattle.ht_base.specs.declared.limits.TheConstants.{MOST_TOKENS}
use Rattle.ht_expr.specs.declared.token.Mark.{Mark}
use Rattle.ht_expr.specs.declared.token.Mark.TheVariants.{Open, Close, Comma, Dot, Plus, Minus, Times, Equal, NotEqual, Less, LessOrEqual, Greater, GreaterOrEqual}
use Rattle.ht_expr.specs.Tokens.{Token, Placed, number, quoted, word, mark, mark_bytes, blank, quotation_mark, begins, is_word_byte, IsFirst, AreBefore}
use Rattle.ht_expr.specs.Reading.{bare, AreWritable, IsWritable, IsWritten}
use Rattle.ht_expr.specs.Scanning.{mark_in, begins_mark}
use Rattle.ht_expr.specs.Trees.{Tree, Fits, tokens_of}
use Rattle.ht_expr.proofs.Firsts.{begins_on, first_mark, first_number, first_quoted, first_word, numerals}
use Rattle.ht_expr.proofs.Writing.{low_ascii, low_word}

abbrev spell : Token → List ℕ
spell (number n) = decimal n
spell (quoted x) = quotation_mark ∷ (x ++ quotation_mark ∷ [])
spell (word w) = w
spell (mark m) = mark_bytes m

abbrev text_of : List Token → List ℕ
text_of [] = []
text_of (t ∷ ts) = blank ∷ (spell t ++ text_of ts)

stops : (test : ℕ → Bool) (ts : List Token) → test blank ≡ false → begins test (text_of ts) ≡ false
stops test [] h = refl
stops test (t ∷ ts) h = h

mark_there : (m : Mark) (ts : List Token) → mark_in (mark_bytes m ++ text_of ts) ≡ Some m
mark_there Open ts = refl
mark_there Close ts = refl
mark_there Comma ts = refl
mark_there Dot ts = refl
mark_there Plus ts = refl
mark_there Minus ts = refl
mark_there Times ts = refl
mark_there Equal ts = refl
mark_there NotEqual ts = refl
mark_there Less ts = rw (stops (λ c. c == 61) ts refl) refl
mark_there LessOrEqual ts = refl
mark_there Greater ts = rw (stops (λ c. c == 61) ts refl) refl
mark_there GreaterOrEqual ts = refl

mark_leads : (m : Mark) (rest : List ℕ) → begins begins_mark (mark_bytes m ++ rest) ≡ true
mark_leads Open rest = refl
mark_leads Close rest = refl
mark_leads Comma rest = refl
mark_leads Dot rest = refl
mark_leads Plus rest = refl
mark_leads Minus rest = refl
mark_leads Times rest = refl
mark_leads Equal rest = refl
mark_leads NotEqual rest = refl
mark_leads Less rest = refl
mark_leads LessOrEqual rest = refl
mark_leads Greater rest = refl
mark_leads GreaterOrEqual rest = refl

begins_all : (test : ℕ → Bool) (bs rest : List ℕ) → list_all test bs ≡ true → 0 < length bs → begins test (bs ++ rest) ≡ true
begins_all test [] rest all some = absurd (omega arith)
begins_all test (b ∷ bs) rest all some = let parts = and_parts (test b) (list_all test bs) all in parts.0

spelled_first : (t : Token) (ts : List Token) → IsWritable t → IsFirst t (spell t) (text_of ts)
spelled_first (number n) ts written =
    let small : n < 2 ^ 64 = omega arith in
    let all = digits_decimal numerals n small in
    first_number (decimal n ++ text_of ts) (decimal n) (text_of ts) n (record { split = refl; inside = all; stops = stops is_ascii_digit ts refl })
    (begins_all is_ascii_digit (decimal n) (text_of ts) all (decimal_nonempty n small)) (digits_value-decimal numerals n small) written
spelled_first (quoted x) ts written =
    let first = first_quoted (quotation_mark ∷ (x ++ (quotation_mark ∷ text_of ts))) (x ++ (quotation_mark ∷ text_of ts)) x (text_of ts) refl (record { split = refl; inside = written.1; stops = refl }) in first.1
spelled_first (word w) ts written =
    let parts = and_parts (begins is_ascii_alphabetic w) (list_all is_word_byte w) written in
    first_word (w ++ text_of ts) w (text_of ts) (record { split = refl; inside = parts.1; stops = stops is_word_byte ts refl }) (begins_on is_ascii_alphabetic w (text_of ts) parts.0)
spelled_first (mark m) ts written = first_mark m (mark_bytes m ++ text_of ts) (text_of ts) (mark_there m ts) (mark_leads m (text_of ts)) refl

abbrev placed_from : ℕ → List Token → List Placed
placed_from at [] = []
placed_from at (t ∷ ts) = record { token = t; at = at + 1 } ∷ placed_from (at + 1 + length (spell t)) ts

before_text : (at : ℕ) (ts : List Token) → AreWritable ts → AreBefore at (text_of ts) (placed_from at ts) []
before_text at [] written = refl
before_text at (t ∷ ts) written = (1, spell t, text_of ts, refl, refl, spelled_first t ts written.0, before_text (at + 1 + length (spell t)) ts written.1)

bare_placed : (at : ℕ) (ts : List Token) → bare (placed_from at ts) ≡ ts
bare_placed at [] = refl
bare_placed at (t ∷ ts) = ap (λ l. t ∷ l) (bare_placed (at + 1 + length (spell t)) ts)

ascii : (bs : List ℕ) → list_all (λ b. nat_lt b 128) bs ≡ true → IsUtf8 bs
ascii bs all = IsUtf8-from_ascii bs (low_ascii (λ b. nat_lt b 128) bs (λ b h. ltb-true b 128 h) all)

mark_text : (m : Mark) → IsUtf8 (mark_bytes m)
mark_text Open = ascii (mark_bytes Open) refl
mark_text Close = ascii (mark_bytes Close) refl
mark_text Comma = ascii (mark_bytes Comma) refl
mark_text Dot = ascii (mark_bytes Dot) refl
mark_text Plus = ascii (mark_bytes Plus) refl
mark_text Minus = ascii (mark_bytes Minus) refl
mark_text Times = ascii (mark_bytes Times) refl
mark_text Equal = ascii (mark_bytes Equal) refl
mark_text NotEqual = ascii (mark_bytes NotEqual) refl
mark_text Less = ascii (mark_bytes Less) refl
mark_text LessOrEqual = ascii (mark_bytes LessOrEqual) refl
mark_text Greater = ascii (mark_bytes Greater) refl
mark_text GreaterOrEqual = ascii (mark_bytes GreaterOrEqual) refl

spelled_text : (t : Token) → IsWritable t → IsUtf8 (spell t)
spelled_text (number n) written = IsUtf8-from_ascii (decimal n) (IsAscii-decimal n (omega arith))
spelled_text (quoted x) written = IsUtf8-append (quotation_mark ∷ []) (x ++ quotation_mark ∷ []) (ascii (quotation_mark ∷ []) refl) (IsUtf8-append x (quotation_mark ∷ []) written.0 (ascii (quotation_mark ∷ []) refl))
spelled_text (word w) written = let parts = and_parts (begins is_ascii_alphabetic w) (list_all is_word_byte w) written in IsUtf8-from_ascii w (low_ascii is_word_byte w low_word parts.1)
spelled_text (mark m) written = mark_text m

all_text : (ts : List Token) → AreWritable ts → IsUtf8 (text_of ts)
all_text [] written = IsUtf8-nil
all_text (t ∷ ts) written = IsUtf8-append (blank ∷ []) (spell t ++ text_of ts) (ascii (blank ∷ []) refl) (IsUtf8-append (spell t) (text_of ts) (spelled_text t written.0) (all_text ts written.1))

pub some_text : (level : ℕ) (a : Tree) → Fits level a → AreWritable (tokens_of a) → length (tokens_of a) ≤ MOST_TOKENS → (text : List ℕ) × IsUtf8 text × IsWritten level text a
some_text level a fits written few =
    let ts = tokens_of a in
    let all = bare_placed 0 ts in
    let len : length (bare (placed_from 0 ts)) ≡ length ts = ap length all in
    (text_of ts, all_text ts written, (placed_from 0 ts, ((0, before_text 0 ts written), omega (arith, length-map (placed_from 0 ts) (λ t. t.token))), subst AreWritable (sym all) written, (fits, sym all)))

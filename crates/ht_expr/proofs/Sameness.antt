-- A text begins with one token.
use Rattle.std.proofs.Common.{◌≡◌, ℕ, List, [], ◌∷◌, ◌++◌, length, drop, refl, ap, sym, subst, ◌∙◌, arith, get_or, Some, None, Option}
use Rattle.std.specs.Char.{is_ascii_alphabetic, is_ascii_digit}
use Rattle.std.proofs.lemmas.List.{append_cancel_right}
use Rattle.ht_expr.specs.declared.token.Mark.{Mark}
use Rattle.ht_expr.specs.declared.token.Mark.TheVariants.{Open, Close, Comma, Dot, Plus, Minus, Times, Equal, NotEqual, Less, LessOrEqual, Greater, GreaterOrEqual}
use Rattle.ht_expr.specs.Scanning.{begins_mark, mark_in}
use Rattle.ht_expr.specs.Tokens.{Token, number, quoted, word, mark, mark_bytes, quotation_mark, Spells, IsFirst}
use Rattle.ht_expr.proofs.Firsts.{clash, quote, digit_no_quote, digit_no_letter, digit_no_mark, letter_no_quote, letter_no_mark, quote_no_mark, spelled_begins}

mark_found : (m : Mark) → mark_in (mark_bytes m) ≡ Some m
mark_found Open = refl
mark_found Close = refl
mark_found Comma = refl
mark_found Dot = refl
mark_found Plus = refl
mark_found Minus = refl
mark_found Times = refl
mark_found Equal = refl
mark_found NotEqual = refl
mark_found Less = refl
mark_found LessOrEqual = refl
mark_found Greater = refl
mark_found GreaterOrEqual = refl

abbrev mark_or : Mark → Option Mark → Mark
mark_or m None = m
mark_or m (Some k) = k

pub same_mark : (m k : Mark) → mark_bytes m ≡ mark_bytes k → m ≡ k
same_mark m k is = ap (mark_or m) (sym (mark_found m) ∙ ap mark_in is ∙ mark_found k)

-- the same bytes are one token
same_token : (t u : Token) (b r s : List ℕ) → Spells t b r → Spells u b s → t ≡ u
same_token (number n) (number m) b r s x y = ap number (sym x.1 ∙ y.1)
same_token (number n) (quoted t) b r s x y = absurd (clash is_ascii_digit quote b digit_no_quote (spelled_begins (number n) b r x) (spelled_begins (quoted t) b s y))
same_token (number n) (word w) b r s x y = absurd (clash is_ascii_digit is_ascii_alphabetic b digit_no_letter (spelled_begins (number n) b r x) (spelled_begins (word w) b s y))
same_token (number n) (mark m) b r s x y = absurd (clash is_ascii_digit begins_mark b digit_no_mark (spelled_begins (number n) b r x) (spelled_begins (mark m) b s y))
same_token (quoted t) (number m) b r s x y = absurd (clash is_ascii_digit quote b digit_no_quote (spelled_begins (number m) b s y) (spelled_begins (quoted t) b r x))
same_token (quoted t) (quoted u) b r s x y = ap quoted (append_cancel_right t u (quotation_mark ∷ []) (ap (drop 1) (sym x.0 ∙ y.0)))
same_token (quoted t) (word w) b r s x y = absurd (clash is_ascii_alphabetic quote b letter_no_quote (spelled_begins (word w) b s y) (spelled_begins (quoted t) b r x))
same_token (quoted t) (mark m) b r s x y = absurd (clash quote begins_mark b quote_no_mark (spelled_begins (quoted t) b r x) (spelled_begins (mark m) b s y))
same_token (word w) (number m) b r s x y = absurd (clash is_ascii_digit is_ascii_alphabetic b digit_no_letter (spelled_begins (number m) b s y) (spelled_begins (word w) b r x))
same_token (word w) (quoted u) b r s x y = absurd (clash is_ascii_alphabetic quote b letter_no_quote (spelled_begins (word w) b r x) (spelled_begins (quoted u) b s y))
same_token (word w) (word v) b r s x y = ap word (sym x.0 ∙ y.0)
same_token (word w) (mark m) b r s x y = absurd (clash is_ascii_alphabetic begins_mark b letter_no_mark (spelled_begins (word w) b r x) (spelled_begins (mark m) b s y))
same_token (mark m) (number k) b r s x y = absurd (clash is_ascii_digit begins_mark b digit_no_mark (spelled_begins (number k) b s y) (spelled_begins (mark m) b r x))
same_token (mark m) (quoted u) b r s x y = absurd (clash quote begins_mark b quote_no_mark (spelled_begins (quoted u) b s y) (spelled_begins (mark m) b r x))
same_token (mark m) (word v) b r s x y = absurd (clash is_ascii_alphabetic begins_mark b letter_no_mark (spelled_begins (word v) b s y) (spelled_begins (mark m) b r x))
same_token (mark m) (mark k) b r s x y = ap mark (same_mark m k (sym x ∙ y))

same_split : (b c r s : List ℕ) → length b ≡ length c → b ++ r ≡ c ++ s → (b ≡ c) × (r ≡ s)
same_split [] [] r s len is = (refl, is)
same_split [] (y ∷ c) r s len is = absurd (omega (arith, len))
same_split (x ∷ b) [] r s len is = absurd (omega (arith, len))
same_split (x ∷ b) (y ∷ c) r s len is =
    let tails = same_split b c r s (omega (arith, len)) (ap (drop 1) is) in
    let heads : x ≡ y = ap (λ l. get_or l 0 0) is in
    (ap (λ l. l ∷ b) heads ∙ ap (λ l. y ∷ l) tails.0, tails.1)

-- one token is first
pub same_first : (t u : Token) (b c r s : List ℕ) → IsFirst t b r → IsFirst u c s → b ++ r ≡ c ++ s → (t ≡ u) × (b ≡ c) × (r ≡ s)
same_first t u b c r s x y is =
    let le = x.longest u c s is y.spelled in
    let ge = y.longest t b r (sym is) x.spelled in
    let both = same_split b c r s (omega (arith, le, ge)) is in
    (same_token t u b r s x.spelled (subst (λ l. Spells u l s) (sym both.0) y.spelled), both.0, both.1)

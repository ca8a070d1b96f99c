-- The token that a text begins with, computed.
use Rattle.std.proofs.Common.{◌≡◌, ℕ, ◌+◌, Bool, true, false, cond, List, [], ◌∷◌, ◌++◌, length, take, drop, refl, ap, sym, subst, ◌∙◌, arith, Option, Some, None}
use Rattle.std.specs.Prelude.{◌==◌, ◌||◌, not, nat_le, if◌then◌else◌}
use Rattle.std.specs.Char.{is_ascii_alphabetic, is_ascii_digit}
use Rattle.std.specs.List.{prefix_len}
use Rattle.std.specs.Str.Parse.{digits_value}
use Rattle.std.proofs.lemmas.Bool.{false≢true, leb-true, leb-false, eqb-true, or_from, not_from_false}
use Rattle.std.proofs.lemmas.List.{length-append}
use Rattle.std.proofs.lemmas.List.Folds.{length-prefix_len}
use Rattle.ht_expr.specs.declared.token.Mark.{Mark}
use Rattle.ht_expr.specs.declared.token.Mark.TheVariants.{Open, Close, Comma, Dot, Plus, Minus, Times, Equal, NotEqual, Less, LessOrEqual, Greater, GreaterOrEqual}
use Rattle.ht_expr.specs.Tokens.{Token, number, quoted, word, mark, mark_bytes, blank, quotation_mark, greatest_number, begins, is_text_byte, is_word_byte, IsFirst, NoneFirst}
use Rattle.ht_expr.specs.Scanning.{IsRun, mark_in, begins_mark}
use Rattle.ht_expr.proofs.Firsts.{quote, first_number, no_number, first_word, first_quoted, no_quoted, first_mark, no_mark}
use Rattle.ht_expr.proofs.Runs.{run_of_prefix}

-- the token that the bytes begin with, and how many of them it takes
abbrev pub number_in : List ℕ → ℕ → Option (Token × ℕ)
number_in bytes n =
    if nat_le (digits_value 10 (take n bytes)) greatest_number then Some (number (digits_value 10 (take n bytes)), n) else None

abbrev pub quoted_in : List ℕ → ℕ → Option (Token × ℕ)
quoted_in inside n = if begins quote (drop n inside) then Some (quoted (take n inside), n + 2) else None

abbrev pub marked : Option Mark → Option (Token × ℕ)
marked None = None
marked (Some m) = Some (mark m, length (mark_bytes m))

abbrev pub token_in : List ℕ → Option (Token × ℕ)
token_in bytes =
    if begins is_ascii_digit bytes then number_in bytes (prefix_len is_ascii_digit bytes)
    else if begins is_ascii_alphabetic bytes then Some (word (take (prefix_len is_word_byte bytes) bytes), prefix_len is_word_byte bytes)
    else if begins quote bytes then quoted_in (drop 1 bytes) (prefix_len is_text_byte (drop 1 bytes))
    else marked (mark_in bytes)

-- that is so
abbrev pub Tells : List ℕ → Option (Token × ℕ) → Type 0
Tells bytes None = NoneFirst bytes
Tells bytes (Some found) = (b : List ℕ) × (r : List ℕ) × (bytes ≡ b ++ r) × (length b ≡ found.1) × IsFirst found.0 b r

number_tells : (bytes : List ℕ) (n : ℕ) (b : Bool) → begins is_ascii_digit bytes ≡ true → n ≡ prefix_len is_ascii_digit bytes → nat_le (digits_value 10 (take n bytes)) greatest_number ≡ b → Tells bytes (number_in bytes n)
number_tells bytes n true h is test =
    let run : IsRun is_ascii_digit bytes (take n bytes) (drop n bytes) = subst (λ k. IsRun is_ascii_digit bytes (take k bytes) (drop k bytes)) (sym is) (run_of_prefix is_ascii_digit bytes) in
    rw test (
      take n bytes,
      drop n bytes,
      run.split,
      ap (λ k. length (take k bytes)) is ∙ length-prefix_len is_ascii_digit bytes ∙ sym is,
      first_number bytes (take n bytes) (drop n bytes) _ run h refl (leb-true _ _ test),
    )
number_tells bytes n false h is test =
    let run : IsRun is_ascii_digit bytes (take n bytes) (drop n bytes) = subst (λ k. IsRun is_ascii_digit bytes (take k bytes) (drop k bytes)) (sym is) (run_of_prefix is_ascii_digit bytes) in
    rw test (no_number bytes (take n bytes) (drop n bytes) run h (leb-false _ _ test))

word_tells : (bytes : List ℕ) → begins is_ascii_alphabetic bytes ≡ true → Tells bytes (Some (word (take (prefix_len is_word_byte bytes) bytes), prefix_len is_word_byte bytes))
word_tells bytes h =
    let run = run_of_prefix is_word_byte bytes in
    (take (prefix_len is_word_byte bytes) bytes, drop (prefix_len is_word_byte bytes) bytes, run.split, length-prefix_len is_word_byte bytes, first_word bytes _ _ run h)

-- what stands behind the quotation mark that closes a text
opened : (rest : List ℕ) → begins quote rest ≡ true → rest ≡ quotation_mark ∷ drop 1 rest
opened [] h = absurd (false≢true h)
opened (b ∷ rest) h = ap (λ c. c ∷ rest) (eqb-true b quotation_mark h)

quoted_tells : (bytes inside : List ℕ) (n : ℕ) (b : Bool) → bytes ≡ quotation_mark ∷ inside → n ≡ prefix_len is_text_byte inside → begins quote (drop n inside) ≡ b → Tells bytes (quoted_in inside n)
quoted_tells bytes inside n true opens is test =
    let run : IsRun is_text_byte inside (take n inside) (drop n inside) = subst (λ k. IsRun is_text_byte inside (take k inside) (drop k inside)) (sym is) (run_of_prefix is_text_byte inside) in
    let closes = opened (drop n inside) test in
    let first = first_quoted bytes inside (take n inside) (drop 1 (drop n inside)) opens (subst (λ l. IsRun is_text_byte inside (take n inside) l) closes run) in
    let len : length (take n inside) ≡ n = ap (λ k. length (take k inside)) is ∙ length-prefix_len is_text_byte inside ∙ sym is in
    rw test (quotation_mark ∷ (take n inside ++ quotation_mark ∷ []), drop 1 (drop n inside), first.0, omega (arith, length-append (take n inside) (quotation_mark ∷ [])), first.1)
quoted_tells bytes inside n false opens is test =
    let run : IsRun is_text_byte inside (take n inside) (drop n inside) = subst (λ k. IsRun is_text_byte inside (take k inside) (drop k inside)) (sym is) (run_of_prefix is_text_byte inside) in
    rw test (no_quoted bytes inside (take n inside) (drop n inside) opens run test)

-- the mark that is found stands there
StandsThere : ℕ → List ℕ → Mark → Type 0
StandsThere b bs m = b ∷ bs ≡ mark_bytes m ++ drop (length (mark_bytes m)) (b ∷ bs)

chain : (t : Bool) (x rest : Option Mark) (m : Mark) (P : Mark → Type 0) → (t ≡ true → x ≡ Some m → P m) → (rest ≡ Some m → P m) → cond t x rest ≡ Some m → P m
chain true x rest m P here later e = here refl e
chain false x rest m P here later e = later e

same_some : (k m : Mark) → Some k ≡ Some m → k ≡ m
same_some k m e = cc

one_sign : (k m : Mark) (b c : ℕ) (bs : List ℕ) → mark_bytes k ≡ c ∷ [] → (b == c) ≡ true → Some k ≡ Some m → StandsThere b bs m
unfolding StandsThere
one_sign k m b c bs spelled test is =
    subst (StandsThere b bs) (same_some k m is) (rw spelled (ap (λ l. l ∷ bs) (eqb-true b c test)))

two_signs : (k m : Mark) (b c : ℕ) (bs : List ℕ) → mark_bytes k ≡ c ∷ 61 ∷ [] → (b == c) ≡ true → begins (λ d. d == 61) bs ≡ true → Some k ≡ Some m → StandsThere b bs m
unfolding StandsThere
two_signs k m b c [] spelled test next is = absurd (false≢true next)
two_signs k m b c (d ∷ bs) spelled test next is =
    subst (StandsThere b (d ∷ bs)) (same_some k m is) (rw spelled (ap (λ l. l ∷ d ∷ bs) (eqb-true b c test) ∙ ap (λ l. c ∷ l ∷ bs) (eqb-true d 61 next)))

mark_stands : (bytes : List ℕ) (m : Mark) → mark_in bytes ≡ Some m → bytes ≡ mark_bytes m ++ drop (length (mark_bytes m)) bytes
unfolding StandsThere
mark_stands [] m e = absurd (cc)
mark_stands (b ∷ bs) m e =
    let P = StandsThere b bs in
    chain (b == 40) (Some Open) _ m P (one_sign Open m b 40 bs refl)
    (chain (b == 41) (Some Close) _ m P (one_sign Close m b 41 bs refl)
    (chain (b == 44) (Some Comma) _ m P (one_sign Comma m b 44 bs refl)
    (chain (b == 46) (Some Dot) _ m P (one_sign Dot m b 46 bs refl)
    (chain (b == 43) (Some Plus) _ m P (one_sign Plus m b 43 bs refl)
    (chain (b == 45) (Some Minus) _ m P (one_sign Minus m b 45 bs refl)
    (chain (b == 42) (Some Times) _ m P (one_sign Times m b 42 bs refl)
    (chain (b == 61) _ _ m P (λ t. chain (begins (λ d. d == 61) bs) (Some Equal) None m P (two_signs Equal m b 61 bs refl t) (λ none. absurd (cc)))
    (chain (b == 33) _ _ m P (λ t. chain (begins (λ d. d == 61) bs) (Some NotEqual) None m P (two_signs NotEqual m b 33 bs refl t) (λ none. absurd (cc)))
    (chain (b == 60) _ _ m P (λ t. chain (begins (λ d. d == 61) bs) (Some LessOrEqual) (Some Less) m P (two_signs LessOrEqual m b 60 bs refl t) (one_sign Less m b 60 bs refl t))
    (chain (b == 62) _ None m P (λ t. chain (begins (λ d. d == 61) bs) (Some GreaterOrEqual) (Some Greater) m P (two_signs GreaterOrEqual m b 62 bs refl t) (one_sign Greater m b 62 bs refl t))
    (λ none. absurd (cc)))))))))))) e

some_byte : (bytes : List ℕ) → begins (λ b. not (b == blank)) bytes ≡ true → begins is_ascii_digit bytes ≡ false → begins is_ascii_alphabetic bytes ≡ false → begins quote bytes ≡ false → begins begins_mark bytes ≡ true
some_byte [] dark d l q = absurd (false≢true dark)
some_byte (b ∷ bs) dark d l q = not_from_false (is_ascii_digit b || is_ascii_alphabetic b || b == quotation_mark) (or_from (is_ascii_digit b || is_ascii_alphabetic b) (quote b) (or_from (is_ascii_digit b) (is_ascii_alphabetic b) d l) q)

marked_tells : (bytes : List ℕ) (found : Option Mark) → begins begins_mark bytes ≡ true → mark_in bytes ≡ found → Tells bytes (marked found)
marked_tells bytes None h is = no_mark bytes is h
marked_tells bytes (Some m) h is =
    let stands = mark_stands bytes m is in
    (mark_bytes m, drop (length (mark_bytes m)) bytes, stands, refl, first_mark m bytes (drop (length (mark_bytes m)) bytes) is h stands)

-- which sort of token it may be
sorted : (bytes : List ℕ) (digit letter quotes : Bool) → begins (λ b. not (b == blank)) bytes ≡ true → begins is_ascii_digit bytes ≡ digit → begins is_ascii_alphabetic bytes ≡ letter → begins quote bytes ≡ quotes
    → Tells bytes (token_in bytes)
sorted bytes true letter quotes dark d l q = rw d (number_tells bytes (prefix_len is_ascii_digit bytes) _ d refl refl)
sorted bytes false true quotes dark d l q = rw (d, l) (word_tells bytes l)
sorted bytes false false true dark d l q = rw (d, l, q) (quoted_tells bytes (drop 1 bytes) (prefix_len is_text_byte (drop 1 bytes)) _ (opened bytes q) refl refl)
sorted bytes false false false dark d l q = rw (d, l, q) (marked_tells bytes (mark_in bytes) (some_byte bytes dark d l q) refl)

pub token_tells : (bytes : List ℕ) → begins (λ b. not (b == blank)) bytes ≡ true → Tells bytes (token_in bytes)
token_tells bytes dark = sorted bytes _ _ _ dark refl refl refl

-- A text has one list of tokens, or one place at which no token begins.
use Rattle.std.proofs.Common.{◌≡◌, ℕ, zero, suc, ◌+◌, Bool, true, false, List, [], ◌∷◌, ◌++◌, length, replicate, refl, ap, sym, subst, ◌∙◌, arith}
use Rattle.std.specs.Prelude.{◌==◌, not}
use Rattle.std.specs.Char.{is_ascii_alphabetic, is_ascii_digit}
use Rattle.std.specs.List.{list_all}
use Rattle.std.proofs.lemmas.Bool.{false≢true, not-true}
use Rattle.std.proofs.lemmas.Bool.Decides.{nat_tests}
use Rattle.std.proofs.lemmas.List.{append-nil, length-replicate}
use Rattle.ht_expr.specs.declared.token.Mark.{Mark}
use Rattle.ht_expr.specs.declared.token.Mark.TheVariants.{Open, Close, Comma, Dot, Plus, Minus, Times, Equal, NotEqual, Less, LessOrEqual, Greater, GreaterOrEqual}
use Rattle.ht_expr.specs.Tokens.{Token, Placed, number, quoted, word, mark, mark_bytes, blank, begins, Spells, NoneFirst, AreBefore, AreTokens, HasNoTokenAt}
use Rattle.ht_expr.proofs.Firsts.{begins_on, quote, same_run, spelled_begins}
use Rattle.ht_expr.proofs.Sameness.{same_first}

abbrev is_blank : ℕ → Bool
is_blank b = b == blank

abbrev is_dark : ℕ → Bool
is_dark b = not (b == blank)

begins_as : (p q : ℕ → Bool) (bs : List ℕ) → ((b : ℕ) → p b ≡ true → q b ≡ true) → begins p bs ≡ true → begins q bs ≡ true
begins_as p q [] weaker h = absurd (false≢true h)
begins_as p q (b ∷ bs) weaker h = weaker b h

dark_digit : (b : ℕ) → is_ascii_digit b ≡ true → is_dark b ≡ true
dark_digit b h = grind (arith, nat_tests)

dark_letter : (b : ℕ) → is_ascii_alphabetic b ≡ true → is_dark b ≡ true
dark_letter b h = grind (arith, nat_tests)

dark_quote : (b : ℕ) → quote b ≡ true → is_dark b ≡ true
dark_quote b h = grind (arith, nat_tests)

dark_mark : (m : Mark) → begins is_dark (mark_bytes m) ≡ true
dark_mark Open = refl
dark_mark Close = refl
dark_mark Comma = refl
dark_mark Dot = refl
dark_mark Plus = refl
dark_mark Minus = refl
dark_mark Times = refl
dark_mark Equal = refl
dark_mark NotEqual = refl
dark_mark Less = refl
dark_mark LessOrEqual = refl
dark_mark Greater = refl
dark_mark GreaterOrEqual = refl

-- no token begins with a blank
dark_token : (t : Token) (b r : List ℕ) → Spells t b r → begins is_dark b ≡ true
dark_token (number n) b r s = begins_as is_ascii_digit is_dark b dark_digit (spelled_begins (number n) b r s)
dark_token (quoted x) b r s = begins_as quote is_dark b dark_quote (spelled_begins (quoted x) b r s)
dark_token (word w) b r s = begins_as is_ascii_alphabetic is_dark b dark_letter (spelled_begins (word w) b r s)
dark_token (mark m) b r s = ap (begins is_dark) s ∙ dark_mark m

no_blank : (bs : List ℕ) → begins is_dark bs ≡ true → begins is_blank bs ≡ false
no_blank [] h = refl
no_blank (b ∷ bs) h = not-true (is_blank b) h

token_no_blank : (t : Token) (b r : List ℕ) → Spells t b r → begins is_blank (b ++ r) ≡ false
token_no_blank t b r s = no_blank (b ++ r) (begins_on is_dark b r (dark_token t b r s))

blanks_pass : (n : ℕ) → list_all is_blank (replicate n blank) ≡ true
blanks_pass zero = refl
blanks_pass (suc n) = blanks_pass n

same_blanks : (n m : ℕ) (r s : List ℕ) → begins is_blank r ≡ false → begins is_blank s ≡ false → replicate n blank ++ r ≡ replicate m blank ++ s → (n ≡ m) × (r ≡ s)
same_blanks n m r s x y is =
    let both = same_run is_blank (replicate n blank) r (replicate m blank) s x y (blanks_pass n) (blanks_pass m) is in
    let len : length (replicate n blank) ≡ length (replicate m blank) = ap length both.0 in
    (sym (length-replicate n blank) ∙ len ∙ length-replicate m blank, both.1)

-- here the tokens end: nothing is left, or no token begins and no blank stands
pub record IsEnd (rest : List ℕ) : Type 0 where
  pub dark : begins is_blank rest ≡ false
  pub none : NoneFirst rest

end_is_end : IsEnd []
end_is_end = record {
  dark = refl;
  none = λ t b r is s. absurd (false≢true (ap (begins is_dark) is ∙ begins_on is_dark b r (dark_token t b r s)));
}

other_end : (rest : List ℕ) → begins (λ b. not (b == blank)) rest ≡ true → NoneFirst rest → IsEnd rest
other_end rest dark none = record { dark = no_blank rest dark; none = none }

same_placed : (t u : Placed) (ts us : List Placed) → t.token ≡ u.token → t.at ≡ u.at → ts ≡ us → t ∷ ts ≡ u ∷ us
same_placed t u ts us x y z =
    let heads : t ≡ u = λ i. record { token = x i; at = y i } in ap (λ l. l ∷ ts) heads ∙ ap (λ l. u ∷ l) z

-- what stands before an end is one list of tokens, and one end
same_before : (at : ℕ) (bytes : List ℕ) (ts us : List Placed) (n m : ℕ) (r s : List ℕ) → AreBefore at bytes ts (replicate n blank ++ r) → AreBefore at bytes us (replicate m blank ++ s)
    → IsEnd r → IsEnd s → (ts ≡ us) × (r ≡ s)
same_before at bytes [] [] n m r s x y end other = let both = same_blanks n m r s end.dark other.dark (sym x ∙ y) in (refl, both.1)
same_before at bytes [] (u ∷ us) n m r s x (k, spelled, behind, split, place, first, more) end other =
    let both = same_blanks n k r (spelled ++ behind) end.dark (token_no_blank u.token spelled behind first.spelled) (sym x ∙ split) in
    absurd (end.none u.token spelled behind both.1 first.spelled)
same_before at bytes (t ∷ ts) [] n m r s (k, spelled, behind, split, place, first, more) y end other =
    let both = same_blanks m k s (spelled ++ behind) other.dark (token_no_blank t.token spelled behind first.spelled) (sym y ∙ split) in
    absurd (other.none t.token spelled behind both.1 first.spelled)
same_before at bytes (t ∷ ts) (u ∷ us) n m r s (k, b, behind, split, place, first, more) (l, c, after, parts, there, kind, rest) end other =
    let both = same_blanks k l (b ++ behind) (c ++ after) (token_no_blank t.token b behind first.spelled) (token_no_blank u.token c after kind.spelled) (sym split ∙ parts) in
    let here = same_first t.token u.token b c behind after first kind both.1 in
    let places : t.at ≡ u.at = place ∙ ap (λ j. at + j) both.0 ∙ sym there in
    let next : at + k + length b ≡ at + l + length c = ap (λ j. at + j + length b) both.0 ∙ ap (λ j. at + l + length j) here.1 in
    let tails = same_before (at + l + length c) after ts us n m r s
    (subst (λ j. AreBefore j after ts (replicate n blank ++ r)) next (subst (λ j. AreBefore (at + k + length b) j ts (replicate n blank ++ r)) here.2 more)) rest end other in
    (same_placed t u ts us here.0 places tails.0, tails.1)

pub one_list : (text : List ℕ) (ts us : List Placed) → AreTokens text ts → AreTokens text us → ts ≡ us
one_list text ts us (n, x) (m, y) =
    let both = same_before 0 text ts us n m [] [] (subst (λ l. AreBefore 0 text ts l) (sym (append-nil (replicate n blank))) x) (subst (λ l. AreBefore 0 text us l) (sym (append-nil (replicate m blank))) y) end_is_end end_is_end in
    both.0

pub no_fault : (text : List ℕ) (ts : List Placed) (at : ℕ) → AreTokens text ts → HasNoTokenAt text at → ⊥
no_fault text ts at (n, x) (us, m, rest, y, dark, none, place) =
    let both = same_before 0 text ts us n m [] rest (subst (λ l. AreBefore 0 text ts l) (sym (append-nil (replicate n blank))) x) y end_is_end (other_end rest dark none) in
    false≢true (ap (begins is_dark) both.1 ∙ dark)

pub one_fault : (text : List ℕ) (a b : ℕ) → HasNoTokenAt text a → HasNoTokenAt text b → a ≡ b
one_fault text a b (ts, n, r, x, dark, none, place) (us, m, s, y, shade, never, there) =
    let both = same_before 0 text ts us n m r s x y (other_end r dark none) (other_end s shade never) in
    let len : length r ≡ length s = ap length both.1 in omega arith

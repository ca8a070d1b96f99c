-- The tokens of a text, computed.
use Rattle.std.proofs.Common.{◌≡◌, ℕ, zero, suc, ◌+◌, ◌<◌, Bool, true, false, List, [], ◌∷◌, ◌++◌, length, take, drop, replicate, refl, ap, sym, subst, ◌∙◌, arith, Option, Some, None}
use Rattle.std.specs.Prelude.{◌==◌, not}
use Rattle.std.specs.List.{prefix_len}
use Rattle.std.proofs.lemmas.Bool.{false≢true, not_from_false}
use Rattle.std.proofs.lemmas.List.{length-append, length-replicate, drop_at}
use Rattle.ht_expr.specs.Tokens.{Token, Placed, blank, begins, Spells, NoneFirst, AreBefore}
use Rattle.ht_expr.proofs.Firsts.{spelled_begins}
use Rattle.std.proofs.lemmas.List.Folds.{length-prefix_len}
use Rattle.ht_expr.proofs.Runs.{run_of_prefix}
use Rattle.ht_expr.proofs.Scanned.{all_blank}
use Rattle.ht_expr.proofs.TokenIn.{token_in, token_tells, Tells}

abbrev is_blank : ℕ → Bool
is_blank b = b == blank

-- the tokens of the bytes, and the place at which there is none. `fuel` is more than the bytes are
abbrev turn : ℕ → List ℕ → Option (Token × ℕ) → (ℕ → List ℕ → List Placed × Option ℕ) → List Placed × Option ℕ
turn at [] found on = ([], None)
turn at (b ∷ bs) None on = ([], Some at)
turn at (b ∷ bs) (Some found) on = let rest = on (at + found.1) (drop found.1 (b ∷ bs)) in (record { token = found.0; at = at } ∷ rest.0, rest.1)

abbrev pub scan : ℕ → ℕ → List ℕ → List Placed × Option ℕ
scan zero at bytes = ([], None)
scan (suc fuel) at bytes =
    let blanks = prefix_len is_blank bytes in
    turn (at + blanks) (drop blanks bytes) (token_in (drop blanks bytes)) (λ here rest. scan fuel here rest)

abbrev pub EndsAt : ℕ → List ℕ → List ℕ → Option ℕ → Type 0
EndsAt at bytes rest None = rest ≡ []
EndsAt at bytes rest (Some place) = (begins (λ b. not (b == blank)) rest ≡ true) × NoneFirst rest × (place + length rest ≡ at + length bytes)

-- that is so
abbrev pub IsScan : ℕ → List ℕ → List Placed × Option ℕ → Type 0
IsScan at bytes found = (blanks : ℕ) × (rest : List ℕ) × AreBefore at bytes found.0 (replicate blanks blank ++ rest) × EndsAt at bytes rest found.1

dark_rest : (b : ℕ) (bs : List ℕ) → begins is_blank (b ∷ bs) ≡ false → begins (λ c. not (c == blank)) (b ∷ bs) ≡ true
dark_rest b bs h = not_from_false (b == blank) h

ends_on : (at n : ℕ) (bytes c r rest : List ℕ) (found : Option ℕ) → bytes ≡ replicate n blank ++ (c ++ r) → EndsAt (at + n + length c) r rest found → EndsAt at bytes rest found
ends_on at n bytes c r rest None split ends = ends
ends_on at n bytes c r rest (Some place) split (dark, none, there) =
    let all : length bytes ≡ length (replicate n blank ++ (c ++ r)) = ap length split in
    (dark, none, omega (arith, length-append (replicate n blank) (c ++ r), length-append c r, length-replicate n blank))

spelled_some : (t : Token) (b r : List ℕ) → Spells t b r → 0 < length b
spelled_some t [] r s = absurd (false≢true (spelled_begins t [] r s))
spelled_some t (x ∷ b) r s = omega arith

turned : (at n : ℕ) (bytes rest : List ℕ) (found : Option (Token × ℕ)) (on : ℕ → List ℕ → List Placed × Option ℕ) → bytes ≡ replicate n blank ++ rest → begins is_blank rest ≡ false → (begins (λ c. not (c == blank)) rest ≡ true → Tells rest found)
    → ((here : ℕ) (more : List ℕ) → length more < length rest → IsScan here more (on here more)) → IsScan at bytes (turn (at + n) rest found on)
turned at n bytes [] found on split stops tells next = (n, [], split, refl)
turned at n bytes (b ∷ bs) None on split stops tells next =
    let all : length bytes ≡ length (replicate n blank ++ (b ∷ bs)) = ap length split in
    (n, b ∷ bs, split, (dark_rest b bs stops, tells (dark_rest b bs stops), omega (arith, length-append (replicate n blank) (b ∷ bs), length-replicate n blank)))
turned at n bytes (b ∷ bs) (Some found) on split stops tells next =
    let told = tells (dark_rest b bs stops) in
    let c = told.0 in
    let r = told.1 in
    let some = spelled_some found.0 c r told.4.spelled in
    let here : length (b ∷ bs) ≡ length (c ++ r) = ap length told.2 in
    let behind : drop found.1 (b ∷ bs) ≡ r = ap (drop found.1) told.2 ∙ drop_at c r found.1 told.3 in
    let shorter : length r < length (b ∷ bs) = let len = told.3 in omega (arith, length-append c r) in
    let tail : IsScan (at + n + length c) r (on (at + n + found.1) (drop found.1 (b ∷ bs))) =
    subst (λ k. IsScan k r (on (at + n + found.1) (drop found.1 (b ∷ bs)))) (ap (λ k. at + n + k) (sym told.3)) (subst (λ l. IsScan (at + n + found.1) r (on (at + n + found.1) l)) (sym behind) (next (at + n + found.1) r shorter)) in (
      tail.0,
      tail.1,
      (n, c, r, split ∙ ap (λ l. replicate n blank ++ l) told.2, refl, told.4, tail.2),
      ends_on at n bytes c r tail.1 _ (split ∙ ap (λ l. replicate n blank ++ l) told.2) tail.3,
    )

pub scanned : (fuel at : ℕ) (bytes : List ℕ) → length bytes < fuel → IsScan at bytes (scan fuel at bytes)
scanned zero at bytes lt = absurd (omega (arith, lt))
scanned (suc fuel) at bytes lt =
    let n = prefix_len is_blank bytes in
    let rest = drop n bytes in
    let run = run_of_prefix is_blank bytes in
    let split : bytes ≡ replicate n blank ++ rest = run.split ∙ ap (λ l. l ++ rest) (all_blank (take n bytes) run.inside ∙ ap (λ k. replicate k blank) (length-prefix_len is_blank bytes)) in
    let all : length bytes ≡ length (replicate n blank ++ rest) = ap length split in
    turned at n bytes rest (token_in rest) (λ here more. scan fuel here more) split run.stops (λ dark. token_tells rest dark)
    (λ here more shorter. scanned fuel here more (omega (arith, length-append (replicate n blank) rest)))

-- A text's tokens, one after another.
use Rattle.std.proofs.Common.{◌≡◌, ℕ, ◌+◌, ◌-◌, ◌<◌, ◌≤◌, Bool, true, false, List, [], ◌∷◌, ◌++◌, length, replicate, map, refl, ap, sym, subst, ◌∙◌, arith}
use Rattle.std.specs.Prelude.{◌==◌, not}
use Rattle.std.specs.Bool.{MatchBool}
use Rattle.std.specs.List.{list_all}
use Rattle.std.proofs.lemmas.Bool.{and_parts, eqb-true, not_from_false}
use Rattle.std.proofs.lemmas.List.{length-append, length-replicate, length-map, map-append}
use Rattle.ht_base.specs.declared.limits.TheConstants.{MOST_TOKENS}
use Rattle.ht_expr.specs.Tokens.{Placed, blank, begins, IsFirst, NoneFirst, AreBefore, HasNoTokenAt}
use Rattle.ht_expr.specs.Scanning.{IsRun, IsBehindBlanks, HasFound, placed, seen}
use Rattle.ht_expr.specs.declared.token.Placed.{Placed as BorrowedPlaced}

pub all_blank : (run : List ℕ) → list_all (λ b. b == blank) run ≡ true → run ≡ replicate (length run) blank
all_blank [] h = refl
all_blank (b ∷ run) h =
    let parts = and_parts (b == blank) (list_all (λ b. b == blank) run) h in
    let is : b ≡ blank = eqb-true b blank parts.0 in
    let more : run ≡ replicate (length run) blank = all_blank run parts.1 in ap (λ c. c ∷ run) is ∙ ap (λ l. blank ∷ l) more

pub behind_run : (text run rest : List ℕ) → IsRun (λ b. b == blank) text run rest → IsBehindBlanks text rest
behind_run text run rest is = record {
  blanks = length run;
  split = is.split ∙ ap (λ l. l ++ rest) (all_blank run is.inside);
  stops = is.stops;
}

before_length : (at : ℕ) (bytes : List ℕ) (ts : List Placed) (rest : List ℕ) → AreBefore at bytes ts rest → length rest ≤ length bytes
before_length at bytes [] rest h = let e : length bytes ≡ length rest = ap length h in omega arith
before_length at bytes (t ∷ ts) rest (blanks, spelled, behind, is, place, first, more) =
    let le = before_length (at + blanks + length spelled) behind ts rest more in
    let e : length bytes ≡ length (replicate blanks blank ++ (spelled ++ behind)) = ap length is in
    omega (arith, length-append (replicate blanks blank) (spelled ++ behind), length-append spelled behind)

one_more : (at : ℕ) (bytes : List ℕ) (ts : List Placed) (blanks : ℕ) (rest : List ℕ) (t : Placed) (spelled behind : List ℕ)
    → AreBefore at bytes ts (replicate blanks blank ++ rest) → rest ≡ spelled ++ behind → IsFirst t.token spelled behind → t.at + length rest ≡ at + length bytes
    → AreBefore at bytes (ts ++ t ∷ []) behind
one_more at bytes [] blanks rest t spelled behind before is first place =
    let e : length bytes ≡ length (replicate blanks blank ++ rest) = ap length before in (
      blanks,
      spelled,
      behind,
      before ∙ ap (λ l. replicate blanks blank ++ l) is,
      omega (arith, length-append (replicate blanks blank) rest, length-replicate blanks blank),
      first,
      refl,
    )
one_more at bytes (u ∷ ts) blanks rest t spelled behind (n, own, after, split, there, kind, more) is first place =
    let e : length bytes ≡ length (replicate n blank ++ (own ++ after)) = ap length split in (
      n,
      own,
      after,
      split,
      there,
      kind,
      one_more (at + n + length own) after ts blanks rest t spelled behind more is first
          (omega (arith, length-append (replicate n blank) (own ++ after), length-append own after, length-replicate n blank)),
    )

pub found_length : (text rest : List ℕ) (kept : List BorrowedPlaced) (b : Bool) → HasFound text rest kept b → length rest ≤ length text
found_length text rest kept b h =
    let le = before_length 0 text h.found (replicate h.blanks blank ++ rest) h.before in
    omega (arith, length-append (replicate h.blanks blank) rest)

-- what was found before the rest, and one token more
abbrev Longer : List ℕ → List ℕ → List Placed → Type 0
Longer text next found = (blanks : ℕ) × AreBefore 0 text found (replicate blanks blank ++ next) × (begins (λ b. b == blank) next ≡ false)

longer : (text rest behind next : List ℕ) (kept : List BorrowedPlaced) (b : Bool) (t : BorrowedPlaced) (bytes : List ℕ) (h : HasFound text rest kept b)
    → rest ≡ bytes ++ behind → IsFirst (seen t.token) bytes behind → t.at ≡ length text - length rest → IsBehindBlanks behind next
    → Longer text next (h.found ++ placed t ∷ [])
longer text rest behind next kept b t bytes h is first place step =
    let within = found_length text rest kept b h in
    let there : t.at + length rest ≡ 0 + length text = omega arith in
    (step.blanks, subst (λ l. AreBefore 0 text (h.found ++ placed t ∷ []) l) step.split (one_more 0 text h.found h.blanks rest (placed t) bytes behind h.before is first there), step.stops)

kept_more : (found : List Placed) (kept : List BorrowedPlaced) (b : Bool) (t : BorrowedPlaced) → length kept < MOST_TOKENS
    → MatchBool b (MOST_TOKENS < length found) (found ≡ map placed kept) → MatchBool b (MOST_TOKENS < length (found ++ placed t ∷ [])) (found ++ placed t ∷ [] ≡ map placed (kept ++ t ∷ []))
kept_more found kept true t lt h = omega (arith, length-append found (placed t ∷ []))
kept_more found kept false t lt h = ap (λ l. l ++ placed t ∷ []) h ∙ sym (map-append placed kept (t ∷ []))

too_many : (found : List Placed) (kept : List BorrowedPlaced) (b : Bool) (t : BorrowedPlaced) → MOST_TOKENS ≤ length kept
    → MatchBool b (MOST_TOKENS < length found) (found ≡ map placed kept) → MOST_TOKENS < length (found ++ placed t ∷ [])
too_many found kept true t le h = omega (arith, length-append found (placed t ∷ []))
too_many found kept false t le h =
    let len : length found ≡ length kept = ap length h ∙ length-map kept placed in omega (arith, length-append found (placed t ∷ []))

-- the token stands in front of the rest
abbrev pub Stands : List ℕ → BorrowedPlaced → List ℕ → Type 0
Stands rest t behind = (bytes : List ℕ) × (rest ≡ bytes ++ behind) × IsFirst (seen t.token) bytes behind

-- a token more, where there is room for it
pub found_kept : (text rest behind next : List ℕ) (kept : List BorrowedPlaced) (b : Bool) (t : BorrowedPlaced) → HasFound text rest kept b
    → Stands rest t behind → t.at ≡ length text - length rest → IsBehindBlanks behind next → length kept < MOST_TOKENS
    → HasFound text next (kept ++ t ∷ []) b
found_kept text rest behind next kept b t h stands place step lt =
    let more = longer text rest behind next kept b t stands.0 h stands.1 stands.2 place step in
    record {
      found = h.found ++ placed t ∷ [];
      blanks = more.0;
      before = more.1;
      stops = more.2;
      most = omega (arith, length-append kept (t ∷ []));
      kept_all = kept_more h.found kept b t lt h.kept_all;
    }

-- and where there is none
pub found_dropped : (text rest behind next : List ℕ) (kept : List BorrowedPlaced) (b : Bool) (t : BorrowedPlaced) → HasFound text rest kept b
    → Stands rest t behind → t.at ≡ length text - length rest → IsBehindBlanks behind next → MOST_TOKENS ≤ length kept
    → HasFound text next kept true
found_dropped text rest behind next kept b t h stands place step le =
    let more = longer text rest behind next kept b t stands.0 h stands.1 stands.2 place step in
    record {
      found = h.found ++ placed t ∷ [];
      blanks = more.0;
      before = more.1;
      stops = more.2;
      most = h.most;
      kept_all = too_many h.found kept b t le h.kept_all;
    }

unblank : (rest : List ℕ) → begins (λ b. b == blank) rest ≡ false → (length rest ≡ 0 → ⊥) → begins (λ b. not (b == blank)) rest ≡ true
unblank [] h some = absurd (some refl)
unblank (b ∷ rest) h some = not_from_false (b == blank) h

-- no token behind those that were found
pub found_fault : (text rest : List ℕ) (kept : List BorrowedPlaced) (b : Bool) → HasFound text rest kept b → NoneFirst rest → (length rest ≡ 0 → ⊥)
    → HasNoTokenAt text (length text - length rest)
found_fault text rest kept b h none some =
    let within = found_length text rest kept b h in
    (h.found, h.blanks, rest, h.before, unblank rest h.stops some, none, omega arith)

-- The answer of a text, computed. So each text has one.
use Rattle.std.proofs.Common.{◌≡◌, ℕ, suc, ◌<◌, ◌≤◌, Bool, true, false, List, [], ◌∷◌, ◌++◌, length, replicate, refl, ap, subst, ◌∙◌, arith, inl, inr, Option, Some, None, Result, Ok, Err}
use Rattle.std.specs.Prelude.{◌≢◌, ◌⊎◌, nat_le, nat_lt, if◌then◌else◌}
use Rattle.std.specs.List.{list_all}
use Rattle.std.specs.Str.{IsUtf8}
use Rattle.std.proofs.lemmas.Bool.{leb-true, cases_lt, ltb-true}
use Rattle.std.proofs.lemmas.List.{append-nil, append_assoc, map-append}
use Rattle.std.proofs.lemmas.Str.{IsUtf8-from_ascii}
use Rattle.ht_base.specs.declared.limits.TheConstants.{MOST_TOKENS}
use Rattle.ht_expr.specs.declared.expected.Symbol.{Symbol}
use Rattle.ht_expr.specs.declared.refusal.ExprRefusal.{ExprRefusal}
use Rattle.ht_expr.specs.declared.refusal.ExprRefusal.TheVariants as refusal
use Rattle.ht_expr.specs.Expected.{Breaks, is_done, next, run}
use Rattle.ht_expr.specs.Kinds.{Declared}
use Rattle.ht_expr.specs.KindTable.{kinds_fit}
use Rattle.ht_expr.specs.Reading.{bare, HasTokens, IsWritten, Reads}
use Rattle.ht_expr.specs.Tokens.{Placed, blank, AreBefore, AreTokens, HasNoTokenAt}
use Rattle.ht_expr.specs.Trees.{Tree, Fits, tokens_of}
use Rattle.ht_expr.proofs.Checking.{run_more}
use Rattle.ht_expr.proofs.Computing.{IsScan, scan, scanned}
use Rattle.ht_expr.proofs.Machine.{shape_fault, start, whole_tree}
use Rattle.ht_expr.proofs.Writing.{low_ascii, text_written}

-- the place at which the symbols can't go on with the tokens, if they can't
abbrev on_next : ℕ → Option (List Symbol) → (List Symbol → Option ℕ) → Option ℕ
on_next at None on = Some at
on_next at (Some st) on = on st

abbrev walk : List Placed → List Symbol → ℕ → Option ℕ
walk [] st end = if is_done st then None else Some end
walk (t ∷ ts) st end = on_next t.at (next st t.token) (λ s. walk ts s end)

abbrev IsWalk : ℕ → List Placed → ℕ → Option ℕ → Type 0
IsWalk p tokens end None = (st : List Symbol) × (run (start p) (bare tokens) ≡ Some st) × (is_done st ≡ true)
IsWalk p tokens end (Some at) = Breaks p tokens end at

last_step : (p : ℕ) (front : List Placed) (st : List Symbol) (end : ℕ) (done : Bool) → run (start p) (bare front) ≡ Some st → is_done st ≡ done → IsWalk p (front ++ []) end (if done then None else Some end)
last_step p front st end true is done = (st, ap (λ l. run (start p) (bare l)) (append-nil front) ∙ is, done)
last_step p front st end false is done = (front, [], st, refl, refl, is, done)

one_step : (p : ℕ) (front ts : List Placed) (t : Placed) (st : List Symbol) (end : ℕ) (found : Option (List Symbol)) → run (start p) (bare front) ≡ Some st → next st t.token ≡ found
    → ((s : List Symbol) → run (start p) (bare (front ++ t ∷ [])) ≡ Some s → IsWalk p ((front ++ t ∷ []) ++ ts) end (walk ts s end)) → IsWalk p (front ++ (t ∷ ts)) end (on_next t.at found (λ s. walk ts s end))
one_step p front ts t st end None is stuck on = (front, t ∷ ts, st, refl, refl, is, stuck)
one_step p front ts t st end (Some s) is goes on =
    let there : run (start p) (bare (front ++ t ∷ [])) ≡ Some s = ap (run (start p)) (map-append (λ u. u.token) front (t ∷ [])) ∙ run_more (bare front) t.token (start p) st is ∙ goes in
    subst (λ l. IsWalk p l end (walk ts s end)) (append_assoc front (t ∷ []) ts) (on s there)

walked : (p : ℕ) (ts front : List Placed) (st : List Symbol) (end : ℕ) → run (start p) (bare front) ≡ Some st → IsWalk p (front ++ ts) end (walk ts st end)
walked p [] front st end is = last_step p front st end (is_done st) is refl
walked p (t ∷ ts) front st end is = one_step p front ts t st end (next st t.token) is refl (λ s there. walked p ts (front ++ t ∷ []) s end there)

abbrev pub wrong_at : ℕ → List Placed → ℕ → Option ℕ
wrong_at p tokens end = walk tokens (start p) end

wrong_is : (p : ℕ) (tokens : List Placed) (end : ℕ) (found : Option ℕ) → wrong_at p tokens end ≡ found → IsWalk p tokens end found
wrong_is p tokens end found is = subst (IsWalk p tokens end) is (walked p tokens [] (start p) end refl)

abbrev pub HasAnswer : Declared → ℕ → List ℕ → Type 0
HasAnswer kinds p text = (answer : Result Tree ExprRefusal) × Reads kinds p text answer × (answer ≢ Err refusal.Memory)

abbrev place_in : Option ℕ → ℕ
place_in None = 0
place_in (Some at) = at

same_place : (a b : ℕ) → Some a ≡ Some b → a ≡ b
same_place a b e = ap place_in e

abbrev pub scan_of : List ℕ → List Placed × Option ℕ
scan_of text = scan (suc (length text)) 0 text

is_scan : (text : List ℕ) → IsScan 0 text (scan_of text)
is_scan text = scanned (suc (length text)) 0 text (omega arith)

whole_tokens : (text : List ℕ) (ts : List Placed) (found : Option ℕ) → IsScan 0 text (ts, found) → found ≡ None → AreTokens text ts
whole_tokens text ts None (n, rest, before, none) is = (n, subst (λ l. AreBefore 0 text ts l) (ap (λ l. replicate n blank ++ l) none ∙ append-nil (replicate n blank)) before)
whole_tokens text ts (Some at) found is = absurd (cc)

no_token : (text : List ℕ) (ts : List Placed) (found : Option ℕ) (at : ℕ) → IsScan 0 text (ts, found) → found ≡ Some at → HasNoTokenAt text at
no_token text ts None at found is = absurd (cc)
no_token text ts (Some place) at (n, rest, before, (dark, none, there)) is =
    let same : place ≡ at = same_place place at is in (ts, n, rest, before, dark, none, omega (arith, there, same))

wrong_shape : (kinds : Declared) (p : ℕ) (text : List ℕ) (ts : List Placed) (at : ℕ) → p ≤ 9 → IsUtf8 text → HasTokens text ts → wrong_at p ts (length text) ≡ Some at → Reads kinds p text (Err (refusal.Shape at))
wrong_shape kinds p text ts at le utf8 has is = (ts, has, shape_fault p ts (length text) at le (text_written text ts utf8 has.0) (wrong_is p ts (length text) (Some at) is))

by_kinds : (kinds : Declared) (p : ℕ) (text : List ℕ) (a : Tree) (fit : Bool) → IsWritten p text a → kinds_fit kinds p a ≡ fit → HasAnswer kinds p text
by_kinds kinds p text a true written fits = (Ok a, (written, fits), λ e. absurd (cc))
by_kinds kinds p text a false written fits = (Err refusal.BadKind, (a, written, fits), λ e. absurd (cc))

by_shape : (kinds : Declared) (p : ℕ) (text : List ℕ) (ts : List Placed) (wrong : Option ℕ) → p ≤ 9 → IsUtf8 text → HasTokens text ts → wrong_at p ts (length text) ≡ wrong → HasAnswer kinds p text
by_shape kinds p text ts None le utf8 has is =
    let (st, there, done) = wrong_is p ts (length text) None is in
    let tree = whole_tree p (bare ts) st le there done in by_kinds kinds p text tree.0 _ (ts, has, text_written text ts utf8 has.0, tree.1) refl
by_shape kinds p text ts (Some at) le utf8 has is = (Err (refusal.Shape at), wrong_shape kinds p text ts at le utf8 has is, λ e. absurd (cc))

by_length : (kinds : Declared) (p : ℕ) (text : List ℕ) (ts : List Placed) → p ≤ 9 → IsUtf8 text → AreTokens text ts → (MOST_TOKENS < length ts) ⊎ (length ts ≤ MOST_TOKENS) → HasAnswer kinds p text
by_length kinds p text ts le utf8 tokens (inl lt) = (Err refusal.TooLong, (ts, tokens, lt), λ e. absurd (cc))
by_length kinds p text ts le utf8 tokens (inr few) = by_shape kinds p text ts _ le utf8 (tokens, few) refl

by_scan : (kinds : Declared) (p : ℕ) (text : List ℕ) (ts : List Placed) (found : Option ℕ) → p ≤ 9 → IsUtf8 text → IsScan 0 text (ts, found) → HasAnswer kinds p text
by_scan kinds p text ts None le utf8 is = let tokens = whole_tokens text ts None is refl in by_length kinds p text ts le utf8 tokens (cases_lt MOST_TOKENS (length ts))
by_scan kinds p text ts (Some at) le utf8 is = (Err (refusal.Token at), no_token text ts (Some at) at is refl, λ e. absurd (cc))

-- each text has an answer
pub some_answer : (kinds : Declared) (p : ℕ) (text : List ℕ) → p ≤ 9 → IsUtf8 text → HasAnswer kinds p text
some_answer kinds p text le utf8 = by_scan kinds p text _ _ le utf8 (is_scan text)

-- the answer of a given text
pub record IsAnswer (kinds : Declared) (p : ℕ) (text : List ℕ) (answer : Result Tree ExprRefusal) : Type 0 where
  pub reads : Reads kinds p text answer

-- by computing
pub token_row : (kinds : Declared) (p : ℕ) (text : List ℕ) (at : ℕ) → (scan_of text).1 ≡ Some at → IsAnswer kinds p text (Err (refusal.Token at))
token_row kinds p text at is = record { reads = no_token text _ _ at (is_scan text) is }

pub long_row : (kinds : Declared) (p : ℕ) (text : List ℕ) → (scan_of text).1 ≡ None → nat_lt MOST_TOKENS (length (scan_of text).0) ≡ true → IsAnswer kinds p text (Err refusal.TooLong)
long_row kinds p text is more = record { reads = ((scan_of text).0, whole_tokens text _ _ (is_scan text) is, ltb-true _ _ more) }

few : (text : List ℕ) → (scan_of text).1 ≡ None → nat_le (length (scan_of text).0) MOST_TOKENS ≡ true → HasTokens text (scan_of text).0
few text is le = (whole_tokens text _ _ (is_scan text) is, leb-true _ _ le)

abbrev is_ascii : List ℕ → Bool
is_ascii text = list_all (λ b. nat_lt b 128) text

ascii_text : (text : List ℕ) → is_ascii text ≡ true → IsUtf8 text
ascii_text text ascii = IsUtf8-from_ascii text (low_ascii (λ b. nat_lt b 128) text (λ b h. ltb-true b 128 h) ascii)

pub shape_row : (kinds : Declared) (p : ℕ) (text : List ℕ) (at : ℕ) → p ≤ 9 → is_ascii text ≡ true → (scan_of text).1 ≡ None → nat_le (length (scan_of text).0) MOST_TOKENS ≡ true
    → wrong_at p (scan_of text).0 (length text) ≡ Some at → IsAnswer kinds p text (Err (refusal.Shape at))
shape_row kinds p text at le ascii is small wrong = record { reads = wrong_shape kinds p text (scan_of text).0 at le (ascii_text text ascii) (few text is small) wrong }

-- the text is written as this tree
pub record IsSpelled (p : ℕ) (text : List ℕ) (a : Tree) : Type 0 where
  pub written : IsWritten p text a

pub spelled_row : (p : ℕ) (text : List ℕ) (a : Tree) → Fits p a → is_ascii text ≡ true → (scan_of text).1 ≡ None → nat_le (length (scan_of text).0) MOST_TOKENS ≡ true → tokens_of a ≡ bare (scan_of text).0
    → IsSpelled p text a
spelled_row p text a fits ascii is small spelled =
    let has = few text is small in
    record { written = ((scan_of text).0, has, text_written text (scan_of text).0 (ascii_text text ascii) has.0, (fits, spelled)) }

pub tree_row : (kinds : Declared) (p : ℕ) (text : List ℕ) (a : Tree) → IsSpelled p text a → kinds_fit kinds p a ≡ true → IsAnswer kinds p text (Ok a)
tree_row kinds p text a is fits = record { reads = (is.written, fits) }

pub kind_row : (kinds : Declared) (p : ℕ) (text : List ℕ) (a : Tree) → IsSpelled p text a → kinds_fit kinds p a ≡ false → IsAnswer kinds p text (Err refusal.BadKind)
kind_row kinds p text a is misfit = record { reads = (a, is.written, misfit) }

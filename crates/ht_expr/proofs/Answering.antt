-- A text has one answer.
use Rattle.std.proofs.Common.{◌≡◌, ℕ, ◌<◌, ◌≤◌, List, [], ◌∷◌, ◌++◌, length, drop, map, refl, ap, sym, subst, ◌∙◌, arith, inl, inr, Result, Ok, Err}
use Rattle.std.specs.Prelude.{◌≢◌, ◌⊎◌}
use Rattle.std.specs.Str.{IsUtf8}
use Rattle.std.proofs.lemmas.Bool.{both_ways}
use Rattle.std.proofs.lemmas.List.{append-nil, append_assoc, map-append}
use Rattle.ht_base.specs.declared.limits.TheConstants.{MOST_TOKENS}
use Rattle.ht_expr.specs.declared.refusal.ExprRefusal.{ExprRefusal}
use Rattle.ht_expr.specs.declared.refusal.ExprRefusal.TheVariants as refusal
use Rattle.ht_expr.specs.Expected.{Checks}
use Rattle.ht_expr.specs.Kinds.{Declared}
use Rattle.ht_expr.specs.KindTable.{kinds_fit}
use Rattle.ht_expr.specs.Reading.{bare, Begins, StopsBefore, HasShapeFault, HasTokens, IsOnly, IsText, IsWritten, Reads}
use Rattle.ht_expr.specs.Scanning.{Scans, placed, seen}
use Rattle.ht_expr.specs.declared.token.Placed.{Placed as BorrowedPlaced}
use Rattle.ht_expr.specs.Building.{all}
use Rattle.ht_expr.specs.Tokens.{Token, Placed, AreTokens}
use Rattle.ht_expr.specs.Trees.{Tree, AreTree}
use Rattle.ht_expr.proofs.Listing.{no_fault, one_fault, one_list}
use Rattle.ht_expr.proofs.Machine.{shape_fault}
use Rattle.ht_expr.proofs.Uniqueness.{one_tree}
use Rattle.ht_expr.proofs.Writing.{text_written}

begins_front : (IsWhole : List Token → Type 0) (ts us : List Token) → Begins IsWhole (ts ++ us) → Begins IsWhole ts
begins_front IsWhole ts us (more, whole) = (us ++ more, subst IsWhole (append_assoc ts us more) whole)

begins_whole : (IsWhole : List Token → Type 0) (ts : List Token) → IsWhole ts → Begins IsWhole ts
begins_whole IsWhole ts whole = ([], subst IsWhole (sym (append-nil ts)) whole)

bare_split : (before behind : List Placed) (t : Placed) → bare (before ++ t ∷ behind) ≡ (bare before ++ t.token ∷ []) ++ bare behind
bare_split before behind t = map-append (λ u. u.token) before (t ∷ behind) ∙ sym (append_assoc (bare before) (t.token ∷ []) (bare behind))

-- where all the tokens begin a text none of them stops it
begins_or_stops : (IsWhole : List Token → Type 0) (tokens : List Placed) (at : ℕ) → Begins IsWhole (bare tokens) → StopsBefore IsWhole tokens at → ⊥
begins_or_stops IsWhole tokens at all (before, t, behind, split, place, begin, breaks) =
    breaks (begins_front IsWhole (bare before ++ t.token ∷ []) (bare behind) (subst (λ l. Begins IsWhole l) (ap bare split ∙ bare_split before behind t) all))

-- of two places in a list one comes first, or they are one
abbrev Cases : List Placed → List Placed → Placed → Placed → Type 0
Cases a b t u = (t ≡ u) ⊎ (((mid : List Placed) × (b ≡ a ++ t ∷ mid)) ⊎ ((mid : List Placed) × (a ≡ b ++ u ∷ mid)))

first_of : List Placed → Placed → Placed
first_of [] d = d
first_of (t ∷ ts) d = t

later : (x y : Placed) (a b : List Placed) (t u : Placed) → x ≡ y → Cases a b t u → Cases (x ∷ a) (y ∷ b) t u
later x y a b t u is (inl same) = inl same
later x y a b t u is (inr (inl (mid, e))) = inr (inl (mid, ap (λ l. y ∷ l) e ∙ ap (λ k. k ∷ (a ++ t ∷ mid)) (sym is)))
later x y a b t u is (inr (inr (mid, e))) = inr (inr (mid, ap (λ l. x ∷ l) e ∙ ap (λ k. k ∷ (b ++ u ∷ mid)) is))

two_places : (a b r s : List Placed) (t u : Placed) → a ++ t ∷ r ≡ b ++ u ∷ s → Cases a b t u
unfolding first_of
two_places [] [] r s t u is = inl (ap (λ l. first_of l t) is)
two_places [] (y ∷ b) r s t u is = inr (inl (b, ap (λ l. l ∷ b) (sym (ap (λ l. first_of l t) is))))
two_places (x ∷ a) [] r s t u is = inr (inr (a, ap (λ l. l ∷ a) (ap (λ l. first_of l x) is)))
two_places (x ∷ a) (y ∷ b) r s t u is = later x y a b t u (ap (λ l. first_of l x) is) (two_places a b r s t u (ap (drop 1) is))

one_stop : (IsWhole : List Token → Type 0) (tokens : List Placed) (at place : ℕ) → StopsBefore IsWhole tokens at → StopsBefore IsWhole tokens place → at ≡ place
one_stop IsWhole tokens at place (a, t, r, split, here, begin, breaks) (b, u, s, parts, there, starts, ends) =
    elim (two_places a b r s t u (sym split ∙ parts)) [
      | inl same ↦ sym here ∙ ap (λ k. k.at) same ∙ there
      | inr rest ↦ elim rest [
        | inl (mid, e) ↦ absurd (breaks (begins_front IsWhole (bare a ++ t.token ∷ []) (bare mid) (subst (λ l. Begins IsWhole l) (ap bare e ∙ bare_split a mid t) starts)))
        | inr (mid, e) ↦ absurd (ends (begins_front IsWhole (bare b ++ u.token ∷ []) (bare mid) (subst (λ l. Begins IsWhole l) (ap bare e ∙ bare_split b mid u) begin)))
      ]
    ]

one_shape : (IsWhole : List Token → Type 0) (tokens : List Placed) (end at place : ℕ) → HasShapeFault IsWhole tokens end at → HasShapeFault IsWhole tokens end place → at ≡ place
one_shape IsWhole tokens end at place (inl x) (inl y) = one_stop IsWhole tokens at place x y
one_shape IsWhole tokens end at place (inl x) (inr y) = absurd (begins_or_stops IsWhole tokens at y.0.0 x)
one_shape IsWhole tokens end at place (inr x) (inl y) = absurd (begins_or_stops IsWhole tokens place x.0.0 y)
one_shape IsWhole tokens end at place (inr x) (inr y) = x.1 ∙ sym y.1

whole_or_shape : (IsWhole : List Token → Type 0) (tokens : List Placed) (end at : ℕ) → IsWhole (bare tokens) → HasShapeFault IsWhole tokens end at → ⊥
whole_or_shape IsWhole tokens end at whole (inl x) = begins_or_stops IsWhole tokens at (begins_whole IsWhole (bare tokens) whole) x
whole_or_shape IsWhole tokens end at whole (inr x) = x.0.1 whole

too_long : (text : List ℕ) (ts us : List Placed) → HasTokens text ts → AreTokens text us → MOST_TOKENS < length us → ⊥
too_long text ts us x y lt = let len : length ts ≡ length us = ap length (one_list text ts us x.0 y) in let le = x.1 in omega arith

-- a text that is written as a tree is refused for its kinds alone
written_or_refused : (kinds : Declared) (level : ℕ) (text : List ℕ) (a : Tree) (e : ExprRefusal) → IsWritten level text a → Reads kinds level text (Err e) → e ≢ refusal.Memory → e ≡ refusal.BadKind
written_or_refused kinds level text a (refusal.Token b) (ts, has, written, tree) y q = absurd (no_fault text ts b has.0 y)
written_or_refused kinds level text a refusal.TooLong (ts, has, written, tree) y q = absurd (too_long text ts y.0 has y.1 y.2)
written_or_refused kinds level text a (refusal.Shape b) (ts, has, written, tree) (us, also, wrong) q =
    let same = one_list text ts us has.0 also.0 in
    absurd (whole_or_shape (IsText level) us (length text) b (subst (λ l. IsText level (bare l)) same (written, (a, tree))) wrong)
written_or_refused kinds level text a refusal.BadKind x y q = refl
written_or_refused kinds level text a refusal.Memory x y q = absurd (q refl)

-- as one tree at most
pub one_written : (level : ℕ) (text : List ℕ) (a b : Tree) → IsWritten level text a → IsWritten level text b → a ≡ b
one_written level text a b (ts, has, written, (fits, is)) (us, also, same_written, (other, there)) =
    let same = one_list text us ts also.0 has.0 in one_tree level a b fits other (is ∙ sym (there ∙ ap bare same))

-- a text is refused in one way
one_refusal : (kinds : Declared) (level : ℕ) (text : List ℕ) (e f : ExprRefusal) → Reads kinds level text (Err e) → Reads kinds level text (Err f) → e ≢ refusal.Memory → f ≢ refusal.Memory → e ≡ f
one_refusal kinds level text (refusal.Token a) (refusal.Token b) x y p q = ap refusal.Token (one_fault text a b x y)
one_refusal kinds level text (refusal.Token a) refusal.TooLong x y p q = absurd (no_fault text y.0 a y.1 x)
one_refusal kinds level text (refusal.Token a) (refusal.Shape b) x y p q = absurd (no_fault text y.0 a y.1.0 x)
one_refusal kinds level text refusal.TooLong (refusal.Token b) x y p q = absurd (no_fault text x.0 b x.1 y)
one_refusal kinds level text refusal.TooLong refusal.TooLong x y p q = refl
one_refusal kinds level text refusal.TooLong (refusal.Shape b) x y p q = absurd (too_long text y.0 x.0 y.1 x.1 x.2)
one_refusal kinds level text (refusal.Shape a) (refusal.Token b) x y p q = absurd (no_fault text x.0 b x.1.0 y)
one_refusal kinds level text (refusal.Shape a) refusal.TooLong x y p q = absurd (too_long text x.0 y.0 x.1 y.1 y.2)
one_refusal kinds level text (refusal.Shape a) (refusal.Shape b) x y p q =
    let same = one_list text y.0 x.0 y.1.0 x.1.0 in
    ap refusal.Shape (one_shape (IsText level) x.0 (length text) a b x.2 (subst (λ l. HasShapeFault (IsText level) l (length text) b) same y.2))
one_refusal kinds level text refusal.BadKind f x y p q = sym (written_or_refused kinds level text x.0 f x.1 y q)
one_refusal kinds level text e refusal.BadKind x y p q = written_or_refused kinds level text y.0 e y.1 x p
one_refusal kinds level text refusal.Memory f x y p q = absurd (p refl)
one_refusal kinds level text e refusal.Memory x y p q = absurd (q refl)

-- a text whose kinds fit isn't refused for them
read_or_refused : (kinds : Declared) (level : ℕ) (text : List ℕ) (a : Tree) (e : ExprRefusal) → Reads kinds level text (Ok a) → Reads kinds level text (Err e) → e ≢ refusal.Memory → ⊥
read_or_refused kinds level text a e x y q =
    let bad : Reads kinds level text (Err refusal.BadKind) = subst (λ f. Reads kinds level text (Err f)) (written_or_refused kinds level text a e x.0 y q) y in
    let same = one_written level text a bad.0 x.0 bad.1 in
    both_ways (kinds_fit kinds level a) (ap (kinds_fit kinds level) same ∙ bad.2) x.1

-- so there is one answer
pub one_answer : (kinds : Declared) (level : ℕ) (text : List ℕ) (r s : Result Tree ExprRefusal) → Reads kinds level text r → Reads kinds level text s → r ≢ Err refusal.Memory → s ≢ Err refusal.Memory → r ≡ s
one_answer kinds level text (Ok a) (Ok b) x y p q = ap Ok (one_written level text a b x.0 y.0)
one_answer kinds level text (Ok a) (Err f) x y p q = absurd (read_or_refused kinds level text a f x y (λ e. q (ap Err e)))
one_answer kinds level text (Err e) (Ok b) x y p q = absurd (read_or_refused kinds level text b e y x (λ f. p (ap Err f)))
one_answer kinds level text (Err e) (Err f) x y p q = ap Err (one_refusal kinds level text e f x y (λ k. p (ap Err k)) (λ k. q (ap Err k)))

-- what was scanned and then checked is refused, or whole
pub refuses_shape : (T : Type 0) (kinds : Declared) (level : ℕ) (text : List ℕ) (ts : List Placed) (e : ExprRefusal) → level ≤ 9 → IsUtf8 text → HasTokens text ts → Checks {T = T} level ts (length text) (Err e) → Reads kinds level text (Err e)
refuses_shape T kinds level text ts (refusal.Shape at) le utf8 has breaks = (ts, has, shape_fault level ts (length text) at le (text_written text ts utf8 has.0) breaks)
refuses_shape T kinds level text ts refusal.Memory le utf8 has breaks = tt
refuses_shape T kinds level text ts (refusal.Token at) le utf8 has breaks = absurd breaks
refuses_shape T kinds level text ts refusal.TooLong le utf8 has breaks = absurd breaks
refuses_shape T kinds level text ts refusal.BadKind le utf8 has breaks = absurd breaks

-- what isn't even scanned is refused
pub refuses : (kinds : Declared) (level : ℕ) (text : List ℕ) (e : ExprRefusal) → Scans text (Err e) → Reads kinds level text (Err e)
refuses kinds level text (refusal.Token at) x = x
refuses kinds level text refusal.TooLong x = x
refuses kinds level text refusal.Memory x = tt
refuses kinds level text (refusal.Shape at) x = absurd x
refuses kinds level text refusal.BadKind x = absurd x

pub only : (kinds : Declared) (level : ℕ) (text : List ℕ) (r : Result Tree ExprRefusal) → Reads kinds level text r → IsOnly kinds level text r
only kinds level text r x = λ other y p q. one_answer kinds level text r other x y p q

same_tokens : (ts : List BorrowedPlaced) → all ts ≡ bare (map placed ts)
same_tokens [] = refl
same_tokens (t ∷ ts) = ap (λ l. seen t.token ∷ l) (same_tokens ts)

-- and the text is written as the tree that was built of its tokens
pub writes_tree : (level : ℕ) (text : List ℕ) (ts : List BorrowedPlaced) (a : Tree) → IsUtf8 text → HasTokens text (map placed ts) → AreTree level (all ts) a → IsWritten level text a
writes_tree level text ts a utf8 has tree = (map placed ts, has, text_written text (map placed ts) utf8 has.0, (tree.0, tree.1 ∙ same_tokens ts))

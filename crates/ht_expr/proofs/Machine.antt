-- What the symbols say of whole texts of tokens, and of their beginnings.
use Rattle.std.proofs.Common.{◌≡◌, ℕ, ◌+◌, ◌≤◌, Bool, true, false, cond, List, [], ◌∷◌, ◌++◌, drop, Option, Some, None, refl, ap, sym, subst, ◌∙◌, append-nil, append_assoc, arith, inl, inr}
use Rattle.std.specs.Prelude.{⊤, nat_le, ◌&&◌, codes}
use Rattle.std.proofs.lemmas.Bool.{both_ways}
use Rattle.std.proofs.lemmas.Str.{IsUtf8-nil}
use Rattle.ht_expr.specs.declared.expected.Behind.{Behind}
use Rattle.ht_expr.specs.declared.expected.Behind.TheVariants as behind
use Rattle.ht_expr.specs.declared.expected.Opening.{Opening}
use Rattle.ht_expr.specs.declared.expected.Symbol.{Symbol}
use Rattle.ht_expr.specs.declared.expected.Symbol.TheVariants as symbol
use Rattle.ht_expr.specs.declared.keyword.Keyword.TheVariants as keyword
use Rattle.ht_expr.specs.declared.kinds.Side.TheVariants.{Input}
use Rattle.ht_expr.specs.declared.operator.Operator.{Operator}
use Rattle.ht_expr.specs.declared.token.Mark.TheVariants.{Dot}
use Rattle.ht_expr.specs.Expected.{Breaks, if_some, is_done, is_said, is_side, is_sign, is_text, is_word, next, on_opening, on_operator, on_test, opening_in, operator_for, run, symbols}
use Rattle.ht_expr.specs.Keywords.{said, spelling}
use Rattle.ht_expr.specs.Reading.{AreWritable, Begins, HasShapeFault, IsText, bare}
use Rattle.ht_expr.specs.Tokens.{Token, Placed, quoted, word, mark}
use Rattle.ht_expr.specs.Trees.{Tree, AreTree, Fits, level, tokens_of, initiator}
use Rattle.ht_expr.proofs.Following.{goes_on, spine}
use Rattle.ht_expr.proofs.Fulfilling.{goes_back, test_back}
use Rattle.ht_expr.proofs.Heads.{opens}
use Rattle.ht_expr.proofs.Meanings.{Meets, Ok, spell}
use Rattle.ht_expr.proofs.Operators.{binds}

-- ---- each tree that is expected is of a level of the grammar, so there is one

abbrev pub Low : List Symbol → Type 0
Low [] = ⊤
Low (symbol.Tree p ∷ st) = (p ≤ 9) × Low st
Low (_ ∷ st) = Low st

low_symbols : (b : Behind) (st : List Symbol) → Low st → Low (symbols b ++ st)
low_symbols behind.Bracketed st low = (omega arith, low)
low_symbols behind.Negated st low = (omega arith, low)
low_symbols behind.Negative st low = (omega arith, low)
low_symbols behind.Choice st low = (omega arith, (omega arith, (omega arith, low)))
low_symbols behind.Operands st low = (omega arith, (omega arith, low))
low_symbols behind.Branches st low = (omega arith, (omega arith, (omega arith, low)))
low_symbols _ st low = low

low_by : (a b : List Symbol) → Some a ≡ Some b → Low a → Low b
low_by a b is low = let same : a ≡ b = cc in subst Low same low

low_opening : (p : ℕ) (st new : List Symbol) (found : Option Opening) → Low st → if_some found (on_opening p st) ≡ Some new → Low new
low_opening p st new None low is = absurd (cc)
low_opening p st new (Some o) low is = test (nat_le o.least p && nat_le p o.most) is
  where
    test : (b : Bool) → cond b (Some (symbols o.behind ++ (symbol.Operators p o.most ∷ st))) None ≡ Some new → Low new
    test true is = low_by _ new is (low_symbols o.behind (symbol.Operators p o.most ∷ st) low)
    test false is = absurd (cc)

low_operator : (p : ℕ) (st new : List Symbol) (found : Option Operator) (below : Option (List Symbol)) → Low st → (below ≡ Some new → Low new) → on_operator p st found below ≡ Some new → Low new
low_operator p st new None below low more is = more is
low_operator p st new (Some o) below low more is = low_by (symbol.Tree (level o + 1) ∷ symbol.Operators p (level o) ∷ st) new is (let b = binds o in omega arith, low)

low_part : (b : Bool) (st new : List Symbol) → Low st → cond b (Some (symbol.Sign Dot ∷ symbol.Word ∷ st)) None ≡ Some new → Low new
low_part true st new low is = low_by (symbol.Sign Dot ∷ symbol.Word ∷ st) new is low
low_part false st new low is = absurd (cc)

low_test : (b : Bool) (st new : List Symbol) → Low st → on_test b st ≡ Some new → Low new
low_test b st new low is = let t = test_back b st new is in subst Low t.1 low

low_next : (st new : List Symbol) (t : Token) → Low st → next st t ≡ Some new → Low new
low_next [] new t low is = absurd (cc)
low_next (symbol.Tree p ∷ st) new t low is = low_opening p st new (opening_in t) low.1 is
low_next (symbol.Operators p q ∷ st) new t low is = low_operator p st new (operator_for p q t) (next st t) low (λ h. low_next st new t low h) is
low_next (symbol.Part ∷ st) new t low is = low_part (is_side t) st new low is
low_next (symbol.Text ∷ st) new t low is = low_test (is_text t) st new low is
low_next (symbol.Word ∷ st) new t low is = low_test (is_word t) st new low is
low_next (symbol.Sign m ∷ st) new t low is = low_test (is_sign m t) st new low is
low_next (symbol.Then ∷ st) new t low is = low_test (is_said (spelling keyword.Then) t) st new low is
low_next (symbol.Else ∷ st) new t low is = low_test (is_said (spelling keyword.Else) t) st new low is

-- whatever is expected can be written
filler : (st : List Symbol) → Low st → (ts : List Token) × AreWritable ts × Meets st ts
filler [] low = ([], tt, refl)
filler (symbol.Tree p ∷ st) low = let (ts, written, meets) = filler st low.1 in (said keyword.Initiator ∷ ts, (refl, written), (initiator, ts, (omega arith, low.0, tt), refl, meets))
filler (symbol.Operators p q ∷ st) low = let (ts, written, meets) = filler st low in (ts, written, ([], ts, tt, refl, meets))
filler (symbol.Part ∷ st) low = let (ts, written, meets) = filler st low in (said keyword.In ∷ mark Dot ∷ word (codes "a") ∷ ts, (refl, (tt, (refl, written))), (Input, codes "a", ts, refl, meets))
filler (symbol.Text ∷ st) low = let (ts, written, meets) = filler st low in (quoted [] ∷ ts, ((IsUtf8-nil, refl), written), ([], ts, refl, meets))
filler (symbol.Word ∷ st) low = let (ts, written, meets) = filler st low in (word (codes "a") ∷ ts, (refl, written), (codes "a", ts, refl, meets))
filler (symbol.Sign m ∷ st) low = let (ts, written, meets) = filler st low in (mark m ∷ ts, (tt, written), (ts, refl, meets))
filler (symbol.Then ∷ st) low = let (ts, written, meets) = filler st low in (said keyword.Then ∷ ts, (refl, written), (ts, refl, meets))
filler (symbol.Else ∷ st) low = let (ts, written, meets) = filler st low in (said keyword.Else ∷ ts, (refl, written), (ts, refl, meets))

-- ---- several steps

runs : (ts : List Token) (st : List Symbol) (more : List Token) → Ok st → Meets st (ts ++ more) → (new : List Symbol) × (run st ts ≡ Some new) × Ok new × Meets new more
runs [] st more ok meets = (st, refl, ok, meets)
runs (t ∷ ts) st more ok meets =
    let (mid, is, fine, there) = goes_on st t (ts ++ more) ok meets in
    let (new, end, last, rest) = runs ts mid more fine there in
    (new, ap (λ o. if_some o (λ s. run s ts)) is ∙ end, last, rest)

step_back : (o : Option (List Symbol)) (t : Token) (ts more : List Token) (st new : List Symbol) → Low st → next st t ≡ o → if_some o (λ s. run s ts) ≡ Some new
    → ((s : List Symbol) → Low s → run s ts ≡ Some new → Low new × (Meets new more → Meets s (ts ++ more))) → Low new × (Meets new more → Meets st (t ∷ (ts ++ more)))
step_back None t ts more st new low is end below = absurd (cc)
step_back (Some s) t ts more st new low is end below = let rest = below s (low_next st s t low is) end in (rest.0, λ meets. goes_back st t (ts ++ more) s is (rest.1 meets))

runs_back : (ts more : List Token) (st new : List Symbol) → Low st → run st ts ≡ Some new → Low new × (Meets new more → Meets st (ts ++ more))
runs_back [] more st new low is = let same : st ≡ new = cc in (subst Low same low, λ meets. subst (λ s. Meets s more) (sym same) meets)
runs_back (t ∷ ts) more st new low is = step_back (next st t) t ts more st new low refl is (λ s lower h. runs_back ts more s new lower h)

-- ---- whole texts

abbrev pub start : ℕ → List Symbol
start p = symbol.Tree p ∷ []

abbrev IsTree : ℕ → List Token → Type 0
IsTree p ts = (e : Tree) × AreTree p ts e

meets_tree : (p : ℕ) (ts : List Token) → Meets (start p) ts → IsTree p ts
meets_tree p ts (e, rest, fits, is, none) = (e, (fits, sym (append-nil (tokens_of e)) ∙ ap (λ l. tokens_of e ++ l) (sym none) ∙ sym is))

tree_meets : (p : ℕ) (ts : List Token) → IsTree p ts → Meets (start p) ts
tree_meets p ts (e, (fits, is)) = (e, [], fits, sym is ∙ sym (append-nil (tokens_of e)), refl)

done_meets : (st : List Symbol) → is_done st ≡ true → Meets st []
done_meets [] done = refl
done_meets (symbol.Operators p q ∷ st) done = ([], [], tt, refl, done_meets st done)
done_meets (symbol.Tree p ∷ st) done = absurd (cc)
done_meets (symbol.Part ∷ st) done = absurd (cc)
done_meets (symbol.Text ∷ st) done = absurd (cc)
done_meets (symbol.Word ∷ st) done = absurd (cc)
done_meets (symbol.Sign m ∷ st) done = absurd (cc)
done_meets (symbol.Then ∷ st) done = absurd (cc)
done_meets (symbol.Else ∷ st) done = absurd (cc)

-- the tokens are a tree where nothing more need come
pub whole_tree : (p : ℕ) (ts : List Token) (st : List Symbol) → p ≤ 9 → run (start p) ts ≡ Some st → is_done st ≡ true → IsTree p ts
whole_tree p ts st le is done = let back = runs_back ts [] (start p) st (le, tt) is in meets_tree p ts (subst (λ l. Meets (start p) l) (append-nil ts) (back.1 (done_meets st done)))

written_both : (ts us : List Token) → AreWritable ts → AreWritable us → AreWritable (ts ++ us)
written_both [] us x y = y
written_both (t ∷ ts) us x y = (x.0, written_both ts us x.1 y)

begun_text : (p : ℕ) (ts : List Token) (st : List Symbol) → p ≤ 9 → AreWritable ts → run (start p) ts ≡ Some st → Begins (IsText p) ts
begun_text p ts st le written is =
    let low = (runs_back ts [] (start p) st (le, tt) is).0 in
    let (more, rest, meets) = filler st low in
    (more, (written_both ts more written rest, meets_tree p (ts ++ more) ((runs_back ts more (start p) st (le, tt) is).1 meets)))

not_begun : (p : ℕ) (ts : List Token) (t : Token) (st : List Symbol) → run (start p) ts ≡ Some st → next st t ≡ None → Begins (IsText p) (ts ++ t ∷ []) → ⊥
not_begun p ts t st is stuck (more, (written, tree)) =
    let meets : Meets (start p) (ts ++ (t ∷ more)) = subst (λ l. Meets (start p) l) (append_assoc ts (t ∷ []) more) (tree_meets p ((ts ++ t ∷ []) ++ more) tree) in
    let (mid, there, ok, rest) = runs ts (start p) (t ∷ more) (tt, tt) meets in
    let same : mid ≡ st = let e : Some mid ≡ Some st = sym there ∙ is in cc in
    let on = goes_on mid t more ok rest in
    let goes : next mid t ≡ Some on.0 = on.1 in
    let none : next mid t ≡ None = ap (λ s. next s t) same ∙ stuck in cc

not_empty : (e : Tree) (p : ℕ) (rest : List Token) → Fits p e → [] ≡ tokens_of e ++ rest → ⊥
not_empty e p rest fits is =
    let (h, ch, s) = spine e p fits in
    let (t, b, split, opening, ends, meets) = opens h s.head s.fits.2 in
    let front : tokens_of e ++ rest ≡ t ∷ ((drop 1 (tokens_of h) ++ spell ch) ++ rest) = ap (λ l. l ++ rest) (s.spelled ∙ ap (λ l. l ++ spell ch) split) in cc

empty_done : (st : List Symbol) → Meets st [] → is_done st ≡ true
empty_done [] meets = refl
empty_done (symbol.Operators p q ∷ st) ([], rest, chain, is, more) = empty_done st (subst (λ l. Meets st l) (sym is) more)
empty_done (symbol.Operators p q ∷ st) (c ∷ ch, rest, chain, is, more) = absurd (cc)
empty_done (symbol.Tree p ∷ st) (e, rest, fits, is, more) = absurd (not_empty e p rest fits is)
empty_done (symbol.Part ∷ st) (side, w, rest, is, more) = absurd (cc)
empty_done (symbol.Text ∷ st) (x, rest, is, more) = absurd (cc)
empty_done (symbol.Word ∷ st) (w, rest, is, more) = absurd (cc)
empty_done (symbol.Sign m ∷ st) (rest, is, more) = absurd (cc)
empty_done (symbol.Then ∷ st) (rest, is, more) = absurd (cc)
empty_done (symbol.Else ∷ st) (rest, is, more) = absurd (cc)

not_whole : (p : ℕ) (ts : List Token) (st : List Symbol) → run (start p) ts ≡ Some st → is_done st ≡ false → IsText p ts → ⊥
not_whole p ts st is open_end (written, tree) =
    let meets : Meets (start p) (ts ++ []) = subst (λ l. Meets (start p) l) (sym (append-nil ts)) (tree_meets p ts tree) in
    let (mid, there, ok, rest) = runs ts (start p) [] (tt, tt) meets in
    let same : mid ≡ st = let e : Some mid ≡ Some st = sym there ∙ is in cc in
    let done = empty_done mid rest in
    both_ways (is_done mid) (ap is_done same ∙ open_end) done

written_front : (front behind : List Placed) → AreWritable (bare (front ++ behind)) → AreWritable (bare front)
written_front [] behind written = tt
written_front (t ∷ front) behind written = (written.0, written_front front behind written.1)

-- where the symbols can't go on, the text goes wrong
pub shape_fault : (p : ℕ) (tokens : List Placed) (end at : ℕ) → p ≤ 9 → AreWritable (bare tokens) → Breaks p tokens end at → HasShapeFault (IsText p) tokens end at
shape_fault p tokens end at le written (front, [], st, split, place, is, stuck) =
    let all : bare tokens ≡ bare front = ap bare (split ∙ append-nil front) in
    let there : run (start p) (bare tokens) ≡ Some st = ap (run (start p)) all ∙ is in
    inr ((begun_text p (bare tokens) st le written there, not_whole p (bare tokens) st there stuck), sym place)
shape_fault p tokens end at le written (front, t ∷ behind, st, split, place, is, stuck) =
    let before = written_front front (t ∷ behind) (subst (λ l. AreWritable (bare l)) split written) in
    inl (front, t, behind, split, place, begun_text p (bare front) st le before is, not_begun p (bare front) t.token st is stuck)

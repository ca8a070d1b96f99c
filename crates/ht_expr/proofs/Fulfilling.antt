-- What the symbols take is in the grammar.
use Rattle.std.proofs.Common.{◌≡◌, ℕ, ◌+◌, ◌≤◌, Bool, true, false, cond, List, [], ◌∷◌, ◌++◌, Option, Some, None, refl, ap, sym, subst, ◌∙◌, append-nil, append_assoc, arith}
use Rattle.std.specs.Prelude.{nat_le, ◌&&◌, ◌||◌}
use Rattle.std.proofs.lemmas.Bool.{and_parts, leb-true}
use Rattle.std.proofs.lemmas.Slice.Eq.{bytes_eq-Decides}
use Rattle.ht_expr.specs.declared.expected.Opening.{Opening}
use Rattle.ht_expr.specs.declared.expected.Symbol.{Symbol}
use Rattle.ht_expr.specs.declared.expected.Symbol.TheVariants as symbol
use Rattle.ht_expr.specs.declared.keyword.Keyword.TheVariants as keyword
use Rattle.ht_expr.specs.declared.kinds.Side.TheVariants.{Input, Output}
use Rattle.ht_expr.specs.declared.operator.Operator.{Operator}
use Rattle.ht_expr.specs.declared.token.Mark.{Mark}
use Rattle.ht_expr.specs.declared.token.Mark.TheVariants.{Dot}
use Rattle.ht_expr.specs.Expected.{if_some, is_said, is_sign, is_text, is_word, next, on_opening, on_operator, on_test, opening_in, operator_for, symbols}
use Rattle.ht_expr.specs.Keywords.{spelling}
use Rattle.ht_expr.specs.Tokens.{Token, number, quoted, word, mark, mark_bytes}
use Rattle.ht_expr.specs.Trees.{Tree, Fits, left, level, most, sign_of, tokens_of, binary}
use Rattle.ht_expr.proofs.Following.{lower}
use Rattle.ht_expr.proofs.Heads.{Begun, begun_by}
use Rattle.ht_expr.proofs.Meanings.{Chain, Link, Meets, meets_split, spell}
use Rattle.ht_expr.proofs.Operators.{binds, taken_is}
use Rattle.ht_expr.proofs.Sameness.{same_mark}

back : (a b : List Symbol) (ts : List Token) → Some a ≡ Some b → Meets b ts → Meets a ts
back a b ts is meets = let same : a ≡ b = cc in subst (λ s. Meets s ts) (sym same) meets

-- the tree of an operand and the operators behind it
abbrev pub joined : Tree → List Link → Tree
joined h [] = h
joined h (c ∷ more) = joined (binary c.0 h c.1) more

pub joined_tokens : (ch : List Link) (h : Tree) → tokens_of (joined h ch) ≡ tokens_of h ++ spell ch
joined_tokens [] h = sym (append-nil (tokens_of h))
joined_tokens (c ∷ more) h = joined_tokens more (binary c.0 h c.1) ∙ append_assoc (tokens_of h) (sign_of c.0 ∷ tokens_of c.1) (spell more)

joined_fits : (ch : List Link) (h : Tree) (p : ℕ) → Fits p h → Chain p (most h) ch → Fits p (joined h ch)
joined_fits [] h p fits chain = fits
joined_fits (c ∷ more) h p fits (le, lq, right, chain) =
    let b = binds c.0 in
    let x = fits.1 in
    joined_fits more (binary c.0 h c.1) p (omega arith, le, ((lower h (left c.0) p fits.0 (omega arith), lq, fits.2), right)) chain

joined_meets : (h : Tree) (p : ℕ) (st : List Symbol) (ts : List Token) → Fits p h → Meets (symbol.Operators p (most h) ∷ st) ts → Meets (symbol.Tree p ∷ st) (tokens_of h ++ ts)
joined_meets h p st ts fits (ch, rest, chain, is, more) = (
  joined h ch,
  rest,
  joined_fits ch h p fits chain,
  ap (λ l. tokens_of h ++ l) is ∙ sym (append_assoc (tokens_of h) (spell ch) rest) ∙ ap (λ l. l ++ rest) (sym (joined_tokens ch h)),
  more,
)

begun_back : (p : ℕ) (st : List Symbol) (t : Token) (x y ts : List Token) (o : Opening) → ts ≡ x ++ y → Begun t x o → o.least ≤ p → p ≤ o.most → Meets (symbol.Operators p o.most ∷ st) y → Meets (symbol.Tree p ∷ st) (t ∷ ts)
begun_back p st t x y ts o split (h, is, low, high, holds) le lt meets =
    let fits : Fits p h = (rw low le, rw high lt, holds) in
    let more = joined_meets h p st y fits (subst (λ q. Meets (symbol.Operators p q ∷ st) y) (sym high) meets) in
    subst (λ l. Meets (symbol.Tree p ∷ st) l) (ap (λ l. l ++ y) is ∙ ap (λ l. t ∷ l) (sym split)) more

tree_test : (p : ℕ) (st new : List Symbol) (t : Token) (ts : List Token) (o : Opening) (b : Bool) → opening_in t ≡ Some o → (nat_le o.least p && nat_le p o.most) ≡ b
    → cond b (Some (symbols o.behind ++ (symbol.Operators p o.most ∷ st))) None ≡ Some new → Meets new ts → Meets (symbol.Tree p ∷ st) (t ∷ ts)
tree_test p st new t ts o true at test is meets =
    let tests = and_parts (nat_le o.least p) (nat_le p o.most) test in
    let s = meets_split (symbols o.behind) (symbol.Operators p o.most ∷ st) ts (back _ new ts is meets) in
    begun_back p st t s.0 s.1 ts o s.2 (begun_by t s.0 o at s.3) (leb-true o.least p tests.0) (leb-true p o.most tests.1) s.4
tree_test p st new t ts o false at test is meets = absurd (cc)

tree_back : (p : ℕ) (st new : List Symbol) (t : Token) (ts : List Token) (found : Option Opening) → opening_in t ≡ found → if_some found (on_opening p st) ≡ Some new → Meets new ts → Meets (symbol.Tree p ∷ st) (t ∷ ts)
tree_back p st new t ts None at is meets = absurd (cc)
tree_back p st new t ts (Some o) at is meets = tree_test p st new t ts o _ at refl is meets

operators_back : (p q : ℕ) (st new : List Symbol) (t : Token) (ts : List Token) (found : Option Operator) → operator_for p q t ≡ found → on_operator p st found (next st t) ≡ Some new → Meets new ts
    → (next st t ≡ Some new → Meets st (t ∷ ts)) → Meets (symbol.Operators p q ∷ st) (t ∷ ts)
operators_back p q st new t ts None at is meets below = ([], t ∷ ts, tt, refl, below is)
operators_back p q st new t ts (Some o) at is meets below =
    let (sign, le, lq) = taken_is p q t o at in
    let (r, rest, fits, split, (ch, end, chain, more, last)) = back (symbol.Tree (level o + 1) ∷ symbol.Operators p (level o) ∷ st) new ts is meets in (
      (o, r) ∷ ch,
      end,
      (le, lq, fits, chain),
      ap (λ x. x ∷ ts) sign ∙ ap (λ l. sign_of o ∷ l) (split ∙ ap (λ l. tokens_of r ++ l) more ∙ sym (append_assoc (tokens_of r) (spell ch) end)),
      last,
    )

pub test_back : (b : Bool) (st new : List Symbol) → on_test b st ≡ Some new → (b ≡ true) × (st ≡ new)
test_back true st new is = (refl, cc)
test_back false st new is = absurd (cc)

text_there : (t : Token) → is_text t ≡ true → (x : List ℕ) × (t ≡ quoted x)
text_there (quoted x) is = (x, refl)
text_there (number n) is = absurd (cc)
text_there (word w) is = absurd (cc)
text_there (mark m) is = absurd (cc)

word_there : (t : Token) → is_word t ≡ true → (w : List ℕ) × (t ≡ word w)
word_there (word w) is = (w, refl)
word_there (number n) is = absurd (cc)
word_there (quoted x) is = absurd (cc)
word_there (mark m) is = absurd (cc)

sign_there : (m : Mark) (t : Token) → is_sign m t ≡ true → t ≡ mark m
sign_there m (mark k) is = let equal = bytes_eq-Decides (mark_bytes k) (mark_bytes m) in ap mark (same_mark k m (equal.0 is))
sign_there m (number n) is = absurd (cc)
sign_there m (quoted x) is = absurd (cc)
sign_there m (word w) is = absurd (cc)

said_there : (s : List ℕ) (t : Token) → is_said s t ≡ true → t ≡ word s
said_there s (word w) is = let equal = bytes_eq-Decides w s in ap word (equal.0 is)
said_there s (number n) is = absurd (cc)
said_there s (quoted x) is = absurd (cc)
said_there s (mark m) is = absurd (cc)

part_back : (st new : List Symbol) (t : Token) (ts : List Token) (a b : Bool) → is_said (spelling keyword.In) t ≡ a → is_said (spelling keyword.Out) t ≡ b
    → cond (a || b) (Some (symbol.Sign Dot ∷ symbol.Word ∷ st)) None ≡ Some new → Meets new ts → Meets (symbol.Part ∷ st) (t ∷ ts)
part_back st new t ts true b at other is meets =
    let (r, x, (w, rest, y, more)) = back (symbol.Sign Dot ∷ symbol.Word ∷ st) new ts is meets in
    let here = said_there (spelling keyword.In) t at in (Input, w, rest, cc, more)
part_back st new t ts false true at other is meets =
    let (r, x, (w, rest, y, more)) = back (symbol.Sign Dot ∷ symbol.Word ∷ st) new ts is meets in
    let here = said_there (spelling keyword.Out) t other in (Output, w, rest, cc, more)
part_back st new t ts false false at other is meets = absurd (cc)

pub goes_back : (st : List Symbol) (t : Token) (ts : List Token) (new : List Symbol) → next st t ≡ Some new → Meets new ts → Meets st (t ∷ ts)
goes_back [] t ts new is meets = absurd (cc)
goes_back (symbol.Tree p ∷ st) t ts new is meets = tree_back p st new t ts _ refl is meets
goes_back (symbol.Operators p q ∷ st) t ts new is meets = operators_back p q st new t ts _ refl is meets (λ h. goes_back st t ts new h meets)
goes_back (symbol.Part ∷ st) t ts new is meets = part_back st new t ts _ _ refl refl is meets
goes_back (symbol.Text ∷ st) t ts new is meets = let b = test_back (is_text t) st new is in let x = text_there t b.0 in (x.0, ts, ap (λ u. u ∷ ts) x.1, subst (λ s. Meets s ts) (sym b.1) meets)
goes_back (symbol.Word ∷ st) t ts new is meets = let b = test_back (is_word t) st new is in let x = word_there t b.0 in (x.0, ts, ap (λ u. u ∷ ts) x.1, subst (λ s. Meets s ts) (sym b.1) meets)
goes_back (symbol.Sign m ∷ st) t ts new is meets = let b = test_back (is_sign m t) st new is in (ts, ap (λ u. u ∷ ts) (sign_there m t b.0), subst (λ s. Meets s ts) (sym b.1) meets)
goes_back (symbol.Then ∷ st) t ts new is meets = let b = test_back (is_said (spelling keyword.Then) t) st new is in (ts, ap (λ u. u ∷ ts) (said_there (spelling keyword.Then) t b.0), subst (λ s. Meets s ts) (sym b.1) meets)
goes_back (symbol.Else ∷ st) t ts new is meets = let b = test_back (is_said (spelling keyword.Else) t) st new is in (ts, ap (λ u. u ∷ ts) (said_there (spelling keyword.Else) t b.0), subst (λ s. Meets s ts) (sym b.1) meets)

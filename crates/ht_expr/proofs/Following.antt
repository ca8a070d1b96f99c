-- The symbols go on exactly with the grammar.
use Rattle.std.proofs.Common.{◌≡◌, ℕ, ◌+◌, ◌≤◌, Bool, true, false, cond, List, [], ◌∷◌, ◌++◌, drop, Some, None, refl, ap, sym, subst, ◌∙◌, append-nil, append_assoc, arith}
use Rattle.std.specs.Prelude.{⊤, nat_le}
use Rattle.std.proofs.lemmas.Bool.{and_from, le-leb}
use Rattle.std.proofs.lemmas.Slice.Eq.{bytes_eq-Decides}
use Rattle.ht_expr.specs.declared.expected.Opening.{Opening}
use Rattle.ht_expr.specs.declared.expected.Symbol.{Symbol}
use Rattle.ht_expr.specs.declared.expected.Symbol.TheVariants as symbol
use Rattle.ht_expr.specs.declared.kinds.Side.{Side}
use Rattle.ht_expr.specs.declared.kinds.Side.TheVariants.{Input, Output}
use Rattle.ht_expr.specs.declared.operator.Operator.{Operator}
use Rattle.ht_expr.specs.declared.token.Mark.{Mark}
use Rattle.ht_expr.specs.declared.token.Mark.TheVariants.{Dot}
use Rattle.ht_expr.specs.Expected.{if_some, is_sign, next, on_opening, on_operator, on_test, opening_in, operator_in, symbols}
use Rattle.ht_expr.specs.Keywords.{said}
use Rattle.ht_expr.specs.Tokens.{Token, number, word, mark, mark_bytes}
use Rattle.ht_expr.specs.Trees.{Tree, Fits, left, least, level, most, only_assigns, side_word, sign_of, tokens_of, integer, text, truth, priority, initiator, part, is_set, count, count_text, count_true, brackets, negative, opposite, binary, choice}
use Rattle.ht_expr.specs.Trees.{nobody, everybody, user, group, union, intersect, except, when}
use Rattle.ht_expr.proofs.Heads.{IsHead, Opens, opens}
use Rattle.ht_expr.proofs.Meanings.{Apart, Chain, Link, Meets, Ok, meets_both, ok_symbols, spell}
use Rattle.ht_expr.proofs.Operators.{binds, is_taken, not_taken, operator_is}

-- what may stand within an operator's operand may stand anywhere in an expression
low : (b : Bool) (p : ℕ) → cond b 9 0 ≤ 8 → cond b 9 0 ≤ p
low true p le = omega arith
low false p le = omega arith

pub lower : (e : Tree) (p q : ℕ) → least e ≤ q → q ≤ 8 → least e ≤ p
lower e p q le small = low (only_assigns e) p (omega (arith, le, small))

-- ---- a tree is an operand that begins with a token of its own, and operators with their right operands

pub record IsSpine (p : ℕ) (e h : Tree) (ch : List Link) : Type 0 where
  pub head : IsHead h
  pub fits : Fits p h
  pub chain : Chain p (most h) ch
  pub spelled : tokens_of e ≡ tokens_of h ++ spell ch

abbrev pub Spine : ℕ → Tree → Type 0
Spine p e = (h : Tree) × (ch : List Link) × IsSpine p e h ch

pub chain_more : (p q : ℕ) (ch : List Link) (o : Operator) (r : Tree) → p ≤ level o → left o ≤ q → Fits (level o + 1) r → Chain (left o) q ch → Chain p q (ch ++ (o, r) ∷ [])
chain_more p q [] o r le lq fits chain = (le, lq, fits, tt)
chain_more p q (c ∷ more) o r le lq fits chain =
    (let b = binds o in let k = chain.0 in omega arith, chain.1, chain.2, chain_more p (level c.0) more o r le chain.0 fits chain.3)

spell_more : (ch : List Link) (o : Operator) (r : Tree) → spell (ch ++ (o, r) ∷ []) ≡ spell ch ++ sign_of o ∷ tokens_of r
spell_more [] o r = ap (λ l. sign_of o ∷ l) (append-nil (tokens_of r))
spell_more (c ∷ more) o r =
    ap (λ l. sign_of c.0 ∷ tokens_of c.1 ++ l) (spell_more more o r) ∙ ap (λ l. sign_of c.0 ∷ l) (sym (append_assoc (tokens_of c.1) (spell more) (sign_of o ∷ tokens_of r)))

-- the operand of a left operand
pub weaker : (p : ℕ) (o : Operator) (h : Tree) → p ≤ level o → Fits (left o) h → Fits p h
weaker p o h le fits = let b = binds o in let x = fits.0 in let y = fits.1 in (lower h p (left o) x (omega arith), omega arith, fits.2)

binary_spine : (p : ℕ) (o : Operator) (l r : Tree) → Fits p (binary o l r) → Spine (left o) l → Spine p (binary o l r)
binary_spine p o l r fits (h, ch, s) = (
  h,
  ch ++ (o, r) ∷ [],
  record {
    head = s.head;
    fits = weaker p o h fits.1 s.fits;
    chain = chain_more p (most h) ch o r fits.1 (s.fits.1) fits.2.1 s.chain;
    spelled = ap (λ b. b ++ sign_of o ∷ tokens_of r) s.spelled ∙ append_assoc (tokens_of h) (spell ch) (sign_of o ∷ tokens_of r) ∙ ap (λ b. tokens_of h ++ b) (sym (spell_more ch o r));
  },
)

lone : (p : ℕ) (h : Tree) → IsHead h → Fits p h → Spine p h
lone p h head fits = (h, [], record { head = head; fits = fits; chain = tt; spelled = sym (append-nil (tokens_of h)) })

pub spine : (e : Tree) (p : ℕ) → Fits p e → Spine p e
spine (binary o l r) p fits = binary_spine p o l r fits (spine l (left o) fits.2.0)
spine (integer n) p fits = lone p (integer n) tt fits
spine (text x) p fits = lone p (text x) tt fits
spine (truth b) p fits = lone p (truth b) tt fits
spine priority p fits = lone p priority tt fits
spine initiator p fits = lone p initiator tt fits
spine (part side w) p fits = lone p (part side w) tt fits
spine (is_set side w) p fits = lone p (is_set side w) tt fits
spine (count c) p fits = lone p (count c) tt fits
spine (count_text t x) p fits = lone p (count_text t x) tt fits
spine (count_true t) p fits = lone p (count_true t) tt fits
spine (brackets e) p fits = lone p (brackets e) tt fits
spine (negative e) p fits = lone p (negative e) tt fits
spine (opposite e) p fits = lone p (opposite e) tt fits
spine (choice c a b) p fits = lone p (choice c a b) tt fits
spine nobody p fits = lone p nobody tt fits
spine everybody p fits = lone p everybody tt fits
spine (user x) p fits = lone p (user x) tt fits
spine (group x) p fits = lone p (group x) tt fits
spine (union a b) p fits = lone p (union a b) tt fits
spine (intersect a b) p fits = lone p (intersect a b) tt fits
spine (except a b) p fits = lone p (except a b) tt fits
spine (when c a b) p fits = lone p (when c a b) tt fits

-- ---- one step

abbrev pub Goes : List Symbol → Token → List Token → Type 0
Goes st t ts = (after : List Symbol) × (next st t ≡ Some after) × Ok after × Meets after ts

abbrev GoesOn : List Symbol → List Token → Type 0
GoesOn st [] = ⊤
GoesOn st (t ∷ ts) = Goes st t ts

opening_on : (p : ℕ) (st : List Symbol) (t : Token) (o : Opening) → opening_in t ≡ Some o → o.least ≤ p → p ≤ o.most
    → next (symbol.Tree p ∷ st) t ≡ Some (symbols o.behind ++ (symbol.Operators p o.most ∷ st))
opening_on p st t o is le lt =
    ap (λ f. if_some f (on_opening p st)) is
    ∙ ap (λ b. cond b (Some (symbols o.behind ++ (symbol.Operators p o.most ∷ st))) None) (and_from (nat_le o.least p) (nat_le p o.most) (le-leb o.least p le) (le-leb p o.most lt))

head_goes : (h : Tree) (p : ℕ) (st : List Symbol) (ch : List Link) (rest : List Token) → Opens h → Fits p h → Chain p (most h) ch → Apart p st → Ok st → Meets st rest
    → GoesOn (symbol.Tree p ∷ st) ((tokens_of h ++ spell ch) ++ rest)
head_goes h p st ch rest (t, b, is, opening, ends, meets) fits chain apart ok more =
    let body = drop 1 (tokens_of h) in
    let split : (tokens_of h ++ spell ch) ++ rest ≡ t ∷ (body ++ (spell ch ++ rest)) = append_assoc (tokens_of h) (spell ch) rest ∙ ap (λ l. l ++ (spell ch ++ rest)) is in
    let after : Meets (symbol.Operators p (most h) ∷ st) (spell ch ++ rest) = (ch, rest, chain, refl, more) in
    subst (λ l. GoesOn (symbol.Tree p ∷ st) l) (sym split) (
      symbols b ++ (symbol.Operators p (most h) ∷ st),
      opening_on p st t (record { least = least h; most = most h; behind = b }) opening fits.0 fits.1,
      ok_symbols b p (most h) st ends fits.1 (apart, ok),
      meets_both (symbols b) (symbol.Operators p (most h) ∷ st) body (spell ch ++ rest) meets after,
    )

tree_goes : (e : Tree) (p : ℕ) (st : List Symbol) (rest : List Token) → Spine p e → Apart p st → Ok st → Meets st rest → GoesOn (symbol.Tree p ∷ st) (tokens_of e ++ rest)
tree_goes e p st rest (h, ch, s) apart ok more =
    subst (λ l. GoesOn (symbol.Tree p ∷ st) (l ++ rest)) (sym s.spelled) (head_goes h p st ch rest (opens h s.head s.fits.2) s.fits s.chain apart ok more)

abbrev IsCons : List Token → Type 0
IsCons [] = ⊥
IsCons (t ∷ ts) = ⊤

abbrev pub first : List Token → Token
first [] = number 0
first (t ∷ ts) = t

side_no : (side : Side) (o : Operator) → operator_in (said (side_word side)) ≡ Some o → ⊥
side_no Input o is = cc
side_no Output o is = cc

-- an operator that an upper symbol takes isn't what the lower ones expect first
not_behind : (ch : List Link) (st : List Symbol) (p r q : ℕ) (t : Token) (o : Operator) (ts rest : List Token) → operator_in t ≡ Some o → (left o ≤ q → ⊥) → (Meets st (t ∷ ts) → ⊥)
    → Chain r q ch → t ∷ ts ≡ spell ch ++ rest → Meets st rest → ⊥
not_behind [] st p r q t o ts rest is not below chain split meets = below (subst (λ l. Meets st l) (sym split) meets)
not_behind (c ∷ more) st p r q t o ts rest is not below chain split meets =
    let here : t ≡ sign_of c.0 = ap first split in
    let same : o ≡ c.0 = let e : Some o ≡ Some c.0 = sym is ∙ ap operator_in here ∙ operator_is c.0 in cc in
    not (rw same chain.1)

not_first : (st : List Symbol) (p : ℕ) (t : Token) (o : Operator) (ts : List Token) → operator_in t ≡ Some o → p ≤ level o → Apart p st → Ok st → Meets st (t ∷ ts) → ⊥
not_first [] p t o ts is le apart ok meets = subst IsCons meets tt
not_first (symbol.Operators r q ∷ st) p t o ts is le apart ok (ch, rest, chain, split, more) =
    not_behind ch st p r q t o ts rest is (λ lt. apart.1 o le lt) (λ h. not_first st r t o ts is (let low = apart.0 in omega arith) ok.0 ok.1 h) chain split more
not_first (symbol.Sign m ∷ st) p t o ts is le apart ok (rest, split, more) = let e = sym (ap (λ l. operator_in (first l)) split ∙ ok.0) ∙ is in cc
not_first (symbol.Then ∷ st) p t o ts is le apart ok (rest, split, more) = let e : None ≡ Some o = sym (ap (λ l. operator_in (first l)) split) ∙ is in cc
not_first (symbol.Else ∷ st) p t o ts is le apart ok (rest, split, more) = let e : None ≡ Some o = sym (ap (λ l. operator_in (first l)) split) ∙ is in cc
not_first (symbol.Tree q ∷ st) p t o ts is le apart ok meets = apart
not_first (symbol.Part ∷ st) p t o ts is le apart ok meets = apart
not_first (symbol.Text ∷ st) p t o ts is le apart ok meets = apart
not_first (symbol.Word ∷ st) p t o ts is le apart ok meets = apart

operators_go : (ch : List Link) (p q : ℕ) (st : List Symbol) (t : Token) (ts rest : List Token) → Apart p st → Ok st → Chain p q ch → t ∷ ts ≡ spell ch ++ rest → Meets st rest
    → (Meets st (t ∷ ts) → Goes st t ts) → Goes (symbol.Operators p q ∷ st) t ts
operators_go [] p q st t ts rest apart ok chain is meets below =
    let here : Meets st (t ∷ ts) = subst (λ l. Meets st l) (sym is) meets in
    let none = not_taken p q t (λ o at le. not_first st p t o ts at le apart ok here) in
    let goes = below here in
    (goes.0, ap (λ f. on_operator p st f (next st t)) none ∙ goes.1, goes.2, goes.3)
operators_go (c ∷ more) p q st t ts rest apart ok chain is meets below =
    let taken = is_taken p q (sign_of c.0) c.0 (operator_is c.0) chain.0 chain.1 in
    let b = binds c.0 in
    subst (λ l. GoesOn (symbol.Operators p q ∷ st) l) (sym is) (
      symbol.Tree (level c.0 + 1) ∷ symbol.Operators p (level c.0) ∷ st,
      ap (λ f. on_operator p st f (next st (sign_of c.0))) taken,
      ((let low = chain.0 in omega arith, λ o high lt. let k = binds o in omega arith), (apart, ok)),
      (c.1, spell more ++ rest, chain.2, append_assoc (tokens_of c.1) (spell more) rest, (more, rest, chain.3, refl, meets)),
    )

sign_is : (m : Mark) → is_sign m (mark m) ≡ true
sign_is m = let equal = bytes_eq-Decides (mark_bytes m) (mark_bytes m) in equal.1 refl

-- the symbols take what they expect
pub goes_on : (st : List Symbol) (t : Token) (ts : List Token) → Ok st → Meets st (t ∷ ts) → Goes st t ts
goes_on [] t ts ok meets = absurd (subst IsCons meets tt)
goes_on (symbol.Tree p ∷ st) t ts ok (e, rest, fits, is, more) = subst (λ l. GoesOn (symbol.Tree p ∷ st) l) (sym is) (tree_goes e p st rest (spine e p fits) ok.0 ok.1 more)
goes_on (symbol.Operators p q ∷ st) t ts ok (ch, rest, chain, is, more) = operators_go ch p q st t ts rest ok.0 ok.1 chain is more (λ h. goes_on st t ts ok.1 h)
goes_on (symbol.Part ∷ st) t ts ok (Input, w, rest, is, more) = subst (λ l. GoesOn (symbol.Part ∷ st) l) (sym is) (symbol.Sign Dot ∷ symbol.Word ∷ st, refl, (refl, ok), (word w ∷ rest, refl, (w, rest, refl, more)))
goes_on (symbol.Part ∷ st) t ts ok (Output, w, rest, is, more) = subst (λ l. GoesOn (symbol.Part ∷ st) l) (sym is) (symbol.Sign Dot ∷ symbol.Word ∷ st, refl, (refl, ok), (word w ∷ rest, refl, (w, rest, refl, more)))
goes_on (symbol.Text ∷ st) t ts ok (x, rest, is, more) = subst (λ l. GoesOn (symbol.Text ∷ st) l) (sym is) (st, refl, ok, more)
goes_on (symbol.Word ∷ st) t ts ok (w, rest, is, more) = subst (λ l. GoesOn (symbol.Word ∷ st) l) (sym is) (st, refl, ok, more)
goes_on (symbol.Sign m ∷ st) t ts ok (rest, is, more) = subst (λ l. GoesOn (symbol.Sign m ∷ st) l) (sym is) (st, ap (λ b. on_test b st) (sign_is m), ok.1, more)
goes_on (symbol.Then ∷ st) t ts ok (rest, is, more) = subst (λ l. GoesOn (symbol.Then ∷ st) l) (sym is) (st, refl, ok, more)
goes_on (symbol.Else ∷ st) t ts ok (rest, is, more) = subst (λ l. GoesOn (symbol.Else ∷ st) l) (sym is) (st, refl, ok, more)

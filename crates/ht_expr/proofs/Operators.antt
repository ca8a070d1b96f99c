-- Which token is which operator, and how operators bind.
use Rattle.std.proofs.Common.{◌≡◌, ℕ, ◌≤◌, Bool, true, false, cond, List, Option, Some, None, refl, ap, ◌∙◌, arith}
use Rattle.std.specs.Prelude.{nat_le, ◌&&◌}
use Rattle.std.proofs.lemmas.Bool.{and_from, and_parts, le-leb, leb-true}
use Rattle.ht_expr.specs.declared.keyword.Keyword.{Keyword}
use Rattle.ht_expr.specs.declared.keyword.Keyword.TheVariants as keyword
use Rattle.ht_expr.specs.declared.operator.Operator.{Operator}
use Rattle.ht_expr.specs.declared.operator.Operator.TheVariants as operator
use Rattle.ht_expr.specs.declared.token.Mark.{Mark}
use Rattle.ht_expr.specs.declared.token.Mark.TheVariants.{Plus, Minus, Times, Equal, NotEqual, Less, LessOrEqual, Greater, GreaterOrEqual}
use Rattle.ht_expr.specs.Expected.{if_some, keyword_in, operator_for, operator_in, operator_of_mark, operator_of_word, taken}
use Rattle.ht_expr.specs.Keywords.{said}
use Rattle.ht_expr.specs.Tokens.{Token, number, quoted, word, mark}
use Rattle.ht_expr.specs.Trees.{left, level, sign_of}
use Rattle.ht_expr.proofs.Keywords.{keyword_spelled}

-- an operator's left operand binds as tightly as the operator at least, and all bind more loosely than a unary sign
pub binds : (o : Operator) → (1 ≤ level o) × (level o ≤ left o) × (left o ≤ 6)
binds operator.Or = (omega arith, omega arith, omega arith)
binds operator.And = (omega arith, omega arith, omega arith)
binds operator.Equal = (omega arith, omega arith, omega arith)
binds operator.NotEqual = (omega arith, omega arith, omega arith)
binds operator.Less = (omega arith, omega arith, omega arith)
binds operator.LessOrEqual = (omega arith, omega arith, omega arith)
binds operator.Greater = (omega arith, omega arith, omega arith)
binds operator.GreaterOrEqual = (omega arith, omega arith, omega arith)
binds operator.Plus = (omega arith, omega arith, omega arith)
binds operator.Minus = (omega arith, omega arith, omega arith)
binds operator.Times = (omega arith, omega arith, omega arith)

-- no operator within a negated expression follows it
pub closed : (o : Operator) → 3 ≤ level o → left o ≤ 3 → ⊥
closed operator.Or le lt = omega arith
closed operator.And le lt = omega arith
closed operator.Equal le lt = omega arith
closed operator.NotEqual le lt = omega arith
closed operator.Less le lt = omega arith
closed operator.LessOrEqual le lt = omega arith
closed operator.Greater le lt = omega arith
closed operator.GreaterOrEqual le lt = omega arith
closed operator.Plus le lt = omega arith
closed operator.Minus le lt = omega arith
closed operator.Times le lt = omega arith

pub operator_is : (o : Operator) → operator_in (sign_of o) ≡ Some o
operator_is operator.Or = refl
operator_is operator.And = refl
operator_is operator.Equal = refl
operator_is operator.NotEqual = refl
operator_is operator.Less = refl
operator_is operator.LessOrEqual = refl
operator_is operator.Greater = refl
operator_is operator.GreaterOrEqual = refl
operator_is operator.Plus = refl
operator_is operator.Minus = refl
operator_is operator.Times = refl

mark_there : (m : Mark) (o : Operator) → operator_of_mark m ≡ Some o → mark m ≡ sign_of o
mark_there Plus o is = let same : operator.Plus ≡ o = cc in ap sign_of same
mark_there Minus o is = let same : operator.Minus ≡ o = cc in ap sign_of same
mark_there Times o is = let same : operator.Times ≡ o = cc in ap sign_of same
mark_there Equal o is = let same : operator.Equal ≡ o = cc in ap sign_of same
mark_there NotEqual o is = let same : operator.NotEqual ≡ o = cc in ap sign_of same
mark_there Less o is = let same : operator.Less ≡ o = cc in ap sign_of same
mark_there LessOrEqual o is = let same : operator.LessOrEqual ≡ o = cc in ap sign_of same
mark_there Greater o is = let same : operator.Greater ≡ o = cc in ap sign_of same
mark_there GreaterOrEqual o is = let same : operator.GreaterOrEqual ≡ o = cc in ap sign_of same
mark_there _ o is = absurd (cc)

word_there : (k : Keyword) (o : Operator) → operator_of_word k ≡ Some o → said k ≡ sign_of o
word_there keyword.Or o is = let same : operator.Or ≡ o = cc in ap sign_of same
word_there keyword.And o is = let same : operator.And ≡ o = cc in ap sign_of same
word_there _ o is = absurd (cc)

keyword_there : (w : List ℕ) (o : Operator) (found : Option Keyword) → keyword_in w ≡ found → if_some found operator_of_word ≡ Some o → word w ≡ sign_of o
keyword_there w o None is at = absurd (cc)
keyword_there w o (Some k) is at = ap word (keyword_spelled w k is) ∙ word_there k o at

pub operator_there : (t : Token) (o : Operator) → operator_in t ≡ Some o → t ≡ sign_of o
operator_there (number n) o is = absurd (cc)
operator_there (quoted x) o is = absurd (cc)
operator_there (mark m) o is = mark_there m o is
operator_there (word w) o is = keyword_there w o (keyword_in w) refl is

-- an operator that binds as tightly as is asked, and whose left operand does, is taken
pub is_taken : (p q : ℕ) (t : Token) (o : Operator) → operator_in t ≡ Some o → p ≤ level o → left o ≤ q → operator_for p q t ≡ Some o
is_taken p q t o is le lq =
    ap (λ f. if_some f (taken p q)) is
    ∙ ap (λ b. cond b (Some o) None) (and_from (nat_le p (level o)) (nat_le (left o) q) (le-leb p (level o) le) (le-leb (left o) q lq))

-- and no other
if_taken : (p q : ℕ) (t : Token) (a o : Operator) (b : Bool) → t ≡ sign_of a → (nat_le p (level a) && nat_le (left a) q) ≡ b → cond b (Some a) None ≡ Some o → (t ≡ sign_of o) × (p ≤ level o) × (left o ≤ q)
if_taken p q t a o true at test is =
    let same : a ≡ o = cc in
    let tests = and_parts (nat_le p (level a)) (nat_le (left a) q) test in
    let le = leb-true p (level a) tests.0 in
    let lq = leb-true (left a) q tests.1 in
    (at ∙ ap sign_of same, rw (← same) le, rw (← same) lq)
if_taken p q t a o false at test is = absurd (cc)

taken_on : (p q : ℕ) (t : Token) (o : Operator) (found : Option Operator) → operator_in t ≡ found → if_some found (taken p q) ≡ Some o → (t ≡ sign_of o) × (p ≤ level o) × (left o ≤ q)
taken_on p q t o None at is = absurd (cc)
taken_on p q t o (Some a) at is = if_taken p q t a o _ (operator_there t a at) refl is

pub taken_is : (p q : ℕ) (t : Token) (o : Operator) → operator_for p q t ≡ Some o → (t ≡ sign_of o) × (p ≤ level o) × (left o ≤ q)
taken_is p q t o is = taken_on p q t o (operator_in t) refl is

left_out : (p q : ℕ) (a : Operator) (b : Bool) → (p ≤ level a → ⊥) → (nat_le p (level a) && nat_le (left a) q) ≡ b → cond b (Some a) None ≡ None
left_out p q a true not test = absurd (not (leb-true p (level a) ((and_parts (nat_le p (level a)) (nat_le (left a) q) test).0)))
left_out p q a false not test = refl

none_on : (p q : ℕ) (found : Option Operator) → ((o : Operator) → found ≡ Some o → p ≤ level o → ⊥) → if_some found (taken p q) ≡ None
none_on p q None not = refl
none_on p q (Some a) not = left_out p q a _ (λ le. not a refl le) refl

-- a token that is no operator of this level is not taken
pub not_taken : (p q : ℕ) (t : Token) → ((o : Operator) → operator_in t ≡ Some o → p ≤ level o → ⊥) → operator_for p q t ≡ None
not_taken p q t not = none_on p q (operator_in t) not

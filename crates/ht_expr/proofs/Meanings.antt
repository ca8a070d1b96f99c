-- What a list of symbols means: the tokens that it can be followed by.
use Rattle.std.proofs.Common.{◌≡◌, ℕ, ◌+◌, ◌≤◌, List, [], ◌∷◌, ◌++◌, None, refl, ap, sym, subst, ◌∙◌, append_assoc, arith}
use Rattle.std.specs.Prelude.{⊤}
use Rattle.ht_expr.specs.declared.expected.Behind.{Behind}
use Rattle.ht_expr.specs.declared.expected.Behind.TheVariants as behind
use Rattle.ht_expr.specs.declared.expected.Symbol.{Symbol}
use Rattle.ht_expr.specs.declared.expected.Symbol.TheVariants as symbol
use Rattle.ht_expr.specs.declared.keyword.Keyword.TheVariants as keyword
use Rattle.ht_expr.specs.declared.kinds.Side.{Side}
use Rattle.ht_expr.specs.declared.operator.Operator.{Operator}
use Rattle.ht_expr.specs.declared.token.Mark.TheVariants.{Dot}
use Rattle.ht_expr.specs.Expected.{operator_of_mark, symbols}
use Rattle.ht_expr.specs.Keywords.{said}
use Rattle.ht_expr.specs.Tokens.{Token, quoted, word, mark}
use Rattle.ht_expr.specs.Trees.{Tree, Fits, left, level, side_word, sign_of, tokens_of}
use Rattle.ht_expr.proofs.Operators.{binds, closed}

abbrev pub Link : Type 0
Link = Operator × Tree

-- operators and right operands behind an operand of level q, where level p is asked for
abbrev pub Chain : ℕ → ℕ → List Link → Type 0
Chain p q [] = ⊤
Chain p q (c ∷ more) = (p ≤ level c.0) × (left c.0 ≤ q) × Fits (level c.0 + 1) c.1 × Chain p (level c.0) more

abbrev pub spell : List Link → List Token
spell [] = []
spell (c ∷ more) = sign_of c.0 ∷ tokens_of c.1 ++ spell more

-- the tokens are what the symbols expect
abbrev pub Meets : List Symbol → List Token → Type 0
Meets [] ts = ts ≡ []
Meets (symbol.Tree p ∷ st) ts = (e : Tree) × (rest : List Token) × Fits p e × (ts ≡ tokens_of e ++ rest) × Meets st rest
Meets (symbol.Operators p q ∷ st) ts = (ch : List Link) × (rest : List Token) × Chain p q ch × (ts ≡ spell ch ++ rest) × Meets st rest
Meets (symbol.Part ∷ st) ts = (side : Side) × (w : List ℕ) × (rest : List Token) × (ts ≡ said (side_word side) ∷ mark Dot ∷ word w ∷ rest) × Meets st rest
Meets (symbol.Text ∷ st) ts = (x : List ℕ) × (rest : List Token) × (ts ≡ quoted x ∷ rest) × Meets st rest
Meets (symbol.Word ∷ st) ts = (w : List ℕ) × (rest : List Token) × (ts ≡ word w ∷ rest) × Meets st rest
Meets (symbol.Sign m ∷ st) ts = (rest : List Token) × (ts ≡ mark m ∷ rest) × Meets st rest
Meets (symbol.Then ∷ st) ts = (rest : List Token) × (ts ≡ said keyword.Then ∷ rest) × Meets st rest
Meets (symbol.Else ∷ st) ts = (rest : List Token) × (ts ≡ said keyword.Else ∷ rest) × Meets st rest

-- what stands behind the symbols of a tree, or before it
pub meets_both : (a st : List Symbol) (x y : List Token) → Meets a x → Meets st y → Meets (a ++ st) (x ++ y)
meets_both [] st x y is meets = subst (λ l. Meets st (l ++ y)) (sym is) meets
meets_both (symbol.Tree p ∷ a) st x y (e, rest, fits, is, more) meets = (e, rest ++ y, fits, ap (λ l. l ++ y) is ∙ append_assoc (tokens_of e) rest y, meets_both a st rest y more meets)
meets_both (symbol.Operators p q ∷ a) st x y (ch, rest, chain, is, more) meets = (ch, rest ++ y, chain, ap (λ l. l ++ y) is ∙ append_assoc (spell ch) rest y, meets_both a st rest y more meets)
meets_both (symbol.Part ∷ a) st x y (side, w, rest, is, more) meets = (side, w, rest ++ y, ap (λ l. l ++ y) is, meets_both a st rest y more meets)
meets_both (symbol.Text ∷ a) st x y (t, rest, is, more) meets = (t, rest ++ y, ap (λ l. l ++ y) is, meets_both a st rest y more meets)
meets_both (symbol.Word ∷ a) st x y (w, rest, is, more) meets = (w, rest ++ y, ap (λ l. l ++ y) is, meets_both a st rest y more meets)
meets_both (symbol.Sign m ∷ a) st x y (rest, is, more) meets = (rest ++ y, ap (λ l. l ++ y) is, meets_both a st rest y more meets)
meets_both (symbol.Then ∷ a) st x y (rest, is, more) meets = (rest ++ y, ap (λ l. l ++ y) is, meets_both a st rest y more meets)
meets_both (symbol.Else ∷ a) st x y (rest, is, more) meets = (rest ++ y, ap (λ l. l ++ y) is, meets_both a st rest y more meets)

abbrev pub Splits : List Symbol → List Symbol → List Token → Type 0
Splits a st ts = (x : List Token) × (y : List Token) × (ts ≡ x ++ y) × Meets a x × Meets st y

pub meets_split : (a st : List Symbol) (ts : List Token) → Meets (a ++ st) ts → Splits a st ts
meets_split [] st ts meets = ([], ts, refl, refl, meets)
meets_split (symbol.Tree p ∷ a) st ts (e, rest, fits, is, more) = let (x, y, split, here, meets) = meets_split a st rest more in
    (tokens_of e ++ x, y, is ∙ ap (λ l. tokens_of e ++ l) split ∙ sym (append_assoc (tokens_of e) x y), (e, x, fits, refl, here), meets)
meets_split (symbol.Operators p q ∷ a) st ts (ch, rest, chain, is, more) = let (x, y, split, here, meets) = meets_split a st rest more in
    (spell ch ++ x, y, is ∙ ap (λ l. spell ch ++ l) split ∙ sym (append_assoc (spell ch) x y), (ch, x, chain, refl, here), meets)
meets_split (symbol.Part ∷ a) st ts (side, w, rest, is, more) = let (x, y, split, here, meets) = meets_split a st rest more in
    (said (side_word side) ∷ mark Dot ∷ word w ∷ x, y, is ∙ ap (λ l. said (side_word side) ∷ mark Dot ∷ word w ∷ l) split, (side, w, x, refl, here), meets)
meets_split (symbol.Text ∷ a) st ts (t, rest, is, more) = let (x, y, split, here, meets) = meets_split a st rest more in
    (quoted t ∷ x, y, is ∙ ap (λ l. quoted t ∷ l) split, (t, x, refl, here), meets)
meets_split (symbol.Word ∷ a) st ts (w, rest, is, more) = let (x, y, split, here, meets) = meets_split a st rest more in
    (word w ∷ x, y, is ∙ ap (λ l. word w ∷ l) split, (w, x, refl, here), meets)
meets_split (symbol.Sign m ∷ a) st ts (rest, is, more) = let (x, y, split, here, meets) = meets_split a st rest more in
    (mark m ∷ x, y, is ∙ ap (λ l. mark m ∷ l) split, (x, refl, here), meets)
meets_split (symbol.Then ∷ a) st ts (rest, is, more) = let (x, y, split, here, meets) = meets_split a st rest more in
    (said keyword.Then ∷ x, y, is ∙ ap (λ l. said keyword.Then ∷ l) split, (x, refl, here), meets)
meets_split (symbol.Else ∷ a) st ts (rest, is, more) = let (x, y, split, here, meets) = meets_split a st rest more in
    (said keyword.Else ∷ x, y, is ∙ ap (λ l. said keyword.Else ∷ l) split, (x, refl, here), meets)

-- no operator that level p takes is one that the symbols below take
abbrev pub Apart : ℕ → List Symbol → Type 0
Apart p [] = ⊤
Apart p (symbol.Operators r q ∷ st) = (r ≤ p) × ((o : Operator) → p ≤ level o → left o ≤ q → ⊥)
Apart p (symbol.Sign m ∷ st) = ⊤
Apart p (symbol.Then ∷ st) = ⊤
Apart p (symbol.Else ∷ st) = ⊤
Apart p _ = ⊥

-- so in each place of the list
abbrev pub Ok : List Symbol → Type 0
Ok [] = ⊤
Ok (symbol.Tree p ∷ st) = Apart p st × Ok st
Ok (symbol.Operators p q ∷ st) = Apart p st × Ok st
Ok (symbol.Sign m ∷ st) = (operator_of_mark m ≡ None) × Ok st
Ok (_ ∷ st) = Ok st

-- a tree that ends with another has the other's level
abbrev pub Ends : Behind → ℕ → Type 0
Ends behind.Negated high = high ≡ 3
Ends behind.Negative high = high ≡ 7
Ends behind.Choice high = high ≡ 0
Ends _ high = ⊤

closes : (k p high : ℕ) (st : List Symbol) → high ≡ k → p ≤ high → ((o : Operator) → k ≤ level o → left o ≤ k → ⊥) → Apart k (symbol.Operators p high ∷ st)
closes k p high st is le not = (omega arith, λ o low lt. not o low (omega arith))

pub ok_symbols : (b : Behind) (p high : ℕ) (st : List Symbol) → Ends b high → p ≤ high → Ok (symbol.Operators p high ∷ st) → Ok (symbols b ++ (symbol.Operators p high ∷ st))
ok_symbols behind.Nothing p high st ends le ok = ok
ok_symbols behind.Brackets p high st ends le ok = (refl, (refl, ok))
ok_symbols behind.Name p high st ends le ok = (refl, ok)
ok_symbols behind.Part p high st ends le ok = (refl, (refl, ok))
ok_symbols behind.Text p high st ends le ok = (refl, (refl, ok))
ok_symbols behind.Texts p high st ends le ok = (refl, (refl, (refl, ok)))
ok_symbols behind.Bracketed p high st ends le ok = (tt, (refl, ok))
ok_symbols behind.Negated p high st ends le ok = (closes 3 p high st ends le closed, ok)
ok_symbols behind.Negative p high st ends le ok = (closes 7 p high st ends le (λ o low lt. let b = binds o in omega arith), ok)
ok_symbols behind.Choice p high st ends le ok = (tt, (tt, (closes 0 p high st ends le (λ o low lt. let b = binds o in omega arith), ok)))
ok_symbols behind.Operands p high st ends le ok = (refl, (tt, (refl, (tt, (refl, ok)))))
ok_symbols behind.Branches p high st ends le ok = (refl, (tt, (refl, (tt, (refl, (tt, (refl, ok)))))))

-- Expressions and people assignments (WS-HumanTask 1.1, 3.5): their trees, the tokens of a tree, and where a tree may
-- stand.
use Rattle.std.specs.Prelude.{◌≡◌, ℕ, ◌+◌, ◌≤◌, Bool, true, false, if◌then◌else◌, List, [], ◌∷◌, ◌++◌, ⊤}
use Rattle.ht_expr.specs.declared.node.Count.{Count}
use Rattle.ht_expr.specs.declared.node.Count.TheVariants.{Made, Finished, Done}
use Rattle.ht_expr.specs.declared.keyword.Keyword.{Keyword}
use Rattle.ht_expr.specs.declared.keyword.Keyword.TheVariants as keyword
use Rattle.ht_expr.specs.declared.kinds.Side.{Side}
use Rattle.ht_expr.specs.declared.kinds.Side.TheVariants.{Input, Output}
use Rattle.ht_expr.specs.declared.levels.TheConstants as levels
use Rattle.ht_expr.specs.declared.operator.Operator.{Operator}
use Rattle.ht_expr.specs.declared.operator.Operator.TheVariants as operator
use Rattle.ht_expr.specs.declared.token.Mark.TheVariants.{Open, Close, Comma, Dot, Plus, Minus, Times, Equal, NotEqual, Less, LessOrEqual, Greater, GreaterOrEqual}
use Rattle.ht_expr.specs.Keywords.{said}
use Rattle.ht_expr.specs.Tokens.{Token, number, quoted, word, mark}

pub data Tree : Type 0 where
  integer : ℕ → Tree
  text : List ℕ → Tree
  truth : Bool → Tree
  priority : Tree
  initiator : Tree
  part : Side → List ℕ → Tree
  is_set : Side → List ℕ → Tree
  count : Count → Tree
  count_text : List ℕ → List ℕ → Tree
  count_true : List ℕ → Tree
  brackets : Tree → Tree
  negative : Tree → Tree
  opposite : Tree → Tree
  binary : Operator → Tree → Tree → Tree
  choice : Tree → Tree → Tree → Tree
  nobody : Tree
  everybody : Tree
  user : List ℕ → Tree
  group : List ℕ → Tree
  union : Tree → Tree → Tree
  intersect : Tree → Tree → Tree
  except : Tree → Tree → Tree
  when : Tree → Tree → Tree → Tree

-- ---- the tokens of a tree

abbrev pub truth_word : Bool → Keyword
truth_word true = keyword.True
truth_word false = keyword.False

abbrev pub side_word : Side → Keyword
side_word Input = keyword.In
side_word Output = keyword.Out

abbrev pub count_word : Count → Keyword
count_word Made = keyword.Made
count_word Finished = keyword.Finished
count_word Done = keyword.Done

abbrev pub sign_of : Operator → Token
sign_of operator.Or = said keyword.Or
sign_of operator.And = said keyword.And
sign_of operator.Equal = mark Equal
sign_of operator.NotEqual = mark NotEqual
sign_of operator.Less = mark Less
sign_of operator.LessOrEqual = mark LessOrEqual
sign_of operator.Greater = mark Greater
sign_of operator.GreaterOrEqual = mark GreaterOrEqual
sign_of operator.Plus = mark Plus
sign_of operator.Minus = mark Minus
sign_of operator.Times = mark Times

-- a word and a text in brackets, as user('anna')
abbrev pub of_text : Keyword → List ℕ → List Token
of_text form x = said form ∷ mark Open ∷ quoted x ∷ mark Close ∷ []

-- a word and two assignments in brackets, as union(nobody, everybody)
abbrev pub of_both : Keyword → List Token → List Token → List Token
of_both form a b = said form ∷ mark Open ∷ (a ++ (mark Comma ∷ (b ++ (mark Close ∷ []))))

abbrev pub tokens_of : Tree → List Token
tokens_of (integer n) = number n ∷ []
tokens_of (text x) = quoted x ∷ []
tokens_of (truth b) = said (truth_word b) ∷ []
tokens_of priority = said keyword.Priority ∷ []
tokens_of initiator = said keyword.Initiator ∷ []
tokens_of (part side w) = said (side_word side) ∷ mark Dot ∷ word w ∷ []
tokens_of (is_set side w) = said keyword.Set ∷ mark Open ∷ said (side_word side) ∷ mark Dot ∷ word w ∷ mark Close ∷ []
tokens_of (count c) = said (count_word c) ∷ mark Open ∷ mark Close ∷ []
tokens_of (count_text p x) = said keyword.CountText ∷ mark Open ∷ quoted p ∷ mark Comma ∷ quoted x ∷ mark Close ∷ []
tokens_of (count_true p) = of_text keyword.CountTrue p
tokens_of (brackets e) = mark Open ∷ (tokens_of e ++ (mark Close ∷ []))
tokens_of (negative e) = mark Minus ∷ tokens_of e
tokens_of (opposite e) = said keyword.Not ∷ tokens_of e
tokens_of (binary o l r) = tokens_of l ++ (sign_of o ∷ tokens_of r)
tokens_of (choice c a b) = said keyword.If ∷ (tokens_of c ++ (said keyword.Then ∷ (tokens_of a ++ (said keyword.Else ∷ tokens_of b))))
tokens_of nobody = said keyword.Nobody ∷ []
tokens_of everybody = said keyword.Everybody ∷ []
tokens_of (user x) = of_text keyword.User x
tokens_of (group x) = of_text keyword.Group x
tokens_of (union a b) = of_both keyword.Union (tokens_of a) (tokens_of b)
tokens_of (intersect a b) = of_both keyword.Intersect (tokens_of a) (tokens_of b)
tokens_of (except a b) = of_both keyword.Except (tokens_of a) (tokens_of b)
tokens_of (when c a b) = said keyword.When ∷ mark Open ∷ (tokens_of c ++ (mark Comma ∷ (tokens_of a ++ (mark Comma ∷ (tokens_of b ++ (mark Close ∷ []))))))

-- ---- where a tree may stand

-- The levels of the grammar have the names of its rules. Where a level of expressions is asked for, a tree of a higher
-- one of them may stand.
abbrev pub an_expression : ℕ
an_expression = levels.EXPRESSION

abbrev pub an_assignment : ℕ
an_assignment = levels.ASSIGNMENT

-- an operator's own level, and the one that its left operand has at least. The right operand has more than the
-- operator's own, so operators of one level lean left
abbrev pub level : Operator → ℕ
level operator.Or = levels.OR
level operator.And = levels.AND
level operator.Equal = levels.COMPARISON
level operator.NotEqual = levels.COMPARISON
level operator.Less = levels.COMPARISON
level operator.LessOrEqual = levels.COMPARISON
level operator.Greater = levels.COMPARISON
level operator.GreaterOrEqual = levels.COMPARISON
level operator.Plus = levels.SUM
level operator.Minus = levels.SUM
level operator.Times = levels.PRODUCT

-- comparisons make no chains
abbrev pub left : Operator → ℕ
left operator.Or = levels.OR
left operator.And = levels.AND
left operator.Equal = levels.SUM
left operator.NotEqual = levels.SUM
left operator.Less = levels.SUM
left operator.LessOrEqual = levels.SUM
left operator.Greater = levels.SUM
left operator.GreaterOrEqual = levels.SUM
left operator.Plus = levels.SUM
left operator.Minus = levels.SUM
left operator.Times = levels.PRODUCT

-- it is no expression
abbrev pub only_assigns : Tree → Bool
only_assigns nobody = true
only_assigns everybody = true
only_assigns (user x) = true
only_assigns (group x) = true
only_assigns (union a b) = true
only_assigns (intersect a b) = true
only_assigns (except a b) = true
only_assigns (when c a b) = true
only_assigns _ = false

-- the lowest and the highest level that is asked for where it stands
abbrev pub least : Tree → ℕ
least e = if only_assigns e then levels.ASSIGNMENT else levels.EXPRESSION

abbrev pub most : Tree → ℕ
most (integer n) = levels.ATOM
most (text x) = levels.ATOM
most (truth b) = levels.ATOM
most priority = levels.ATOM
most initiator = levels.ASSIGNMENT
most (part Input w) = levels.ASSIGNMENT
most (part Output w) = levels.ATOM
most (is_set side w) = levels.ATOM
most (count c) = levels.ATOM
most (count_text p x) = levels.ATOM
most (count_true p) = levels.ATOM
most (brackets e) = levels.ATOM
most (negative e) = levels.UNARY
most (opposite e) = levels.NOT
most (binary o l r) = level o
most (choice c a b) = levels.EXPRESSION
most nobody = levels.ASSIGNMENT
most everybody = levels.ASSIGNMENT
most (user x) = levels.ASSIGNMENT
most (group x) = levels.ASSIGNMENT
most (union a b) = levels.ASSIGNMENT
most (intersect a b) = levels.ASSIGNMENT
most (except a b) = levels.ASSIGNMENT
most (when c a b) = levels.ASSIGNMENT

abbrev pub Stands : ℕ → Tree → Type 0 → Type 0
Stands p e Holds = (least e ≤ p) × (p ≤ most e) × Holds

-- what it holds stands where it may
abbrev pub Holds : Tree → Type 0
Holds (brackets e) = Stands levels.EXPRESSION e (Holds e)
Holds (negative e) = Stands levels.UNARY e (Holds e)
Holds (opposite e) = Stands levels.NOT e (Holds e)
Holds (binary o l r) = Stands (left o) l (Holds l) × Stands (level o + 1) r (Holds r)
Holds (choice c a b) = Stands levels.EXPRESSION c (Holds c) × Stands levels.EXPRESSION a (Holds a) × Stands levels.EXPRESSION b (Holds b)
Holds (union a b) = Stands levels.ASSIGNMENT a (Holds a) × Stands levels.ASSIGNMENT b (Holds b)
Holds (intersect a b) = Stands levels.ASSIGNMENT a (Holds a) × Stands levels.ASSIGNMENT b (Holds b)
Holds (except a b) = Stands levels.ASSIGNMENT a (Holds a) × Stands levels.ASSIGNMENT b (Holds b)
Holds (when c a b) = Stands levels.EXPRESSION c (Holds c) × Stands levels.ASSIGNMENT a (Holds a) × Stands levels.ASSIGNMENT b (Holds b)
Holds _ = ⊤

-- the tree may stand where this level is asked for
abbrev pub Fits : ℕ → Tree → Type 0
Fits p e = Stands p e (Holds e)

-- the tokens are this tree of this level
abbrev pub AreTree : ℕ → List Token → Tree → Type 0
AreTree p tokens e = Fits p e × (tokens_of e ≡ tokens)

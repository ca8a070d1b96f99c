-- Which kinds the operands of each form have, and which kind it has itself.
use Rattle.std.specs.Prelude.{Bool, true, false, ◌&&◌, ◌||◌, ◌==◌, ℕ, is_some, if◌then◌else◌, Option, Some, None}
use Rattle.ht_base.specs.declared.kind.Kind.{Kind}
use Rattle.ht_base.specs.declared.kind.Kind.TheVariants.{Text, Int, Truth, Person, Instant}
use Rattle.ht_expr.specs.declared.operator.Operator.{Operator}
use Rattle.ht_expr.specs.declared.operator.Operator.TheVariants as operator
use Rattle.ht_expr.specs.Kinds.{Declared, declared_kind}
use Rattle.ht_expr.specs.Trees.{Tree, integer, text, truth, priority, initiator, part, is_set, count, count_text, count_true, brackets, negative, opposite, binary, choice}
use Rattle.ht_expr.specs.Trees.{an_assignment, union, intersect, except, when}

abbrev pub same_kind : Kind → Kind → Bool
same_kind Text Text = true
same_kind Int Int = true
same_kind Truth Truth = true
same_kind Person Person = true
same_kind Instant Instant = true
same_kind _ _ = false

abbrev pub are : Kind → Kind → Kind → Bool
are kind a b = same_kind kind a && same_kind kind b

-- the operands may have these kinds
abbrev pub operands_fit : Operator → Kind → Kind → Bool
operands_fit operator.Or a b = are Truth a b
operands_fit operator.And a b = are Truth a b
operands_fit operator.Equal a b = same_kind a b
operands_fit operator.NotEqual a b = same_kind a b
operands_fit operator.Less a b = are Int a b || are Instant a b
operands_fit operator.LessOrEqual a b = are Int a b || are Instant a b
operands_fit operator.Greater a b = are Int a b || are Instant a b
operands_fit operator.GreaterOrEqual a b = are Int a b || are Instant a b
operands_fit operator.Plus a b = are Int a b
operands_fit operator.Minus a b = are Int a b
operands_fit operator.Times a b = are Int a b

-- what the operator makes of them
abbrev pub operator_kind : Operator → Kind
operator_kind operator.Plus = Int
operator_kind operator.Minus = Int
operator_kind operator.Times = Int
operator_kind _ = Truth

-- it is there, and of this kind
abbrev pub is_of_kind : Kind → Option Kind → Bool
is_of_kind kind None = false
is_of_kind kind (Some a) = same_kind kind a

abbrev pub if_of_kind : Kind → Option Kind → Option Kind
if_of_kind kind a = if is_of_kind kind a then Some kind else None

abbrev pub operated_kind : Operator → Option Kind → Option Kind → Option Kind
operated_kind o (Some a) (Some b) = if operands_fit o a b then Some (operator_kind o) else None
operated_kind o _ _ = None

-- both branches have one kind
abbrev pub common_kind : Option Kind → Option Kind → Option Kind
common_kind (Some a) (Some b) = if same_kind a b then Some a else None
common_kind _ _ = None

-- The kind of an expression, a line a form. None: a part isn't declared, or the kinds don't fit.
abbrev pub kind_of : Declared → Tree → Option Kind
kind_of kinds (integer n) = Some Int
kind_of kinds (text x) = Some Text
kind_of kinds (truth b) = Some Truth
kind_of kinds priority = Some Int
kind_of kinds initiator = Some Person
kind_of kinds (part side name) = declared_kind kinds side name
kind_of kinds (is_set side name) = if is_some (declared_kind kinds side name) then Some Truth else None
kind_of kinds (count c) = Some Int
kind_of kinds (count_text p x) = Some Int
kind_of kinds (count_true p) = Some Int
kind_of kinds (brackets e) = kind_of kinds e
kind_of kinds (negative e) = if_of_kind Int (kind_of kinds e)
kind_of kinds (opposite e) = if_of_kind Truth (kind_of kinds e)
kind_of kinds (binary o l r) = operated_kind o (kind_of kinds l) (kind_of kinds r)
kind_of kinds (choice test a b) = if is_of_kind Truth (kind_of kinds test) then common_kind (kind_of kinds a) (kind_of kinds b) else None
kind_of kinds _ = None

-- The parts of an assignment are persons, and its tests are truths.
abbrev pub assigns : Declared → Tree → Bool
assigns kinds (part side name) = is_of_kind Person (declared_kind kinds side name)
assigns kinds (union a b) = assigns kinds a && assigns kinds b
assigns kinds (intersect a b) = assigns kinds a && assigns kinds b
assigns kinds (except a b) = assigns kinds a && assigns kinds b
assigns kinds (when test a b) = is_of_kind Truth (kind_of kinds test) && (assigns kinds a && assigns kinds b)
assigns kinds _ = true

-- The kinds fit in a tree of this level. A branch counts that is never taken.
abbrev pub kinds_fit : Declared → ℕ → Tree → Bool
kinds_fit kinds level e = if level == an_assignment then assigns kinds e else is_some (kind_of kinds e)

-- The value of an expression.
use Rattle.std.specs.Prelude.{ℕ, Bool, true, false, not, ◌&&◌, ◌||◌, ◌==◌, nat_lt, int_lt, ℤ, pos, neg_ℤ, ◌+ℤ◌, ◌-ℤ◌, ◌*ℤ◌, List, [], is_some, bytes_eq, Option, Some, None, option_map}
use Rattle.ht_base.specs.Integers.{clamped}
use Rattle.ht_base.specs.declared.kind.Kind.{Kind}
use Rattle.ht_base.specs.declared.kind.Kind.TheVariants as kind
use Rattle.ht_base.specs.declared.value.Value.{Value}
use Rattle.ht_base.specs.declared.value.Value.TheVariants as values
use Rattle.ht_value.specs.declared.environment.Env.{Env}
use Rattle.ht_expr.specs.declared.operator.Operator.{Operator}
use Rattle.ht_expr.specs.declared.operator.Operator.TheVariants as operator
use Rattle.ht_value.specs.Environment.{counted, given, text_count, true_count}
use Rattle.ht_expr.specs.Kinds.{Declared, declared_kind}
use Rattle.ht_expr.specs.Trees.{Tree, integer, text, truth, priority, initiator, part, is_set, count, count_text, count_true, brackets, negative, opposite, binary, choice}

-- what an expression gives. A person may be nobody. What has no kind gives nothing
pub data Outcome : Type 0 where
  a_text : List ℕ → Outcome
  a_number : ℤ → Outcome
  a_truth : Bool → Outcome
  a_person : Option ℕ → Outcome
  a_moment : ℕ → Outcome
  nothing : Outcome

-- its kind
abbrev pub kind_of_outcome : Outcome → Option Kind
kind_of_outcome (a_text x) = Some kind.Text
kind_of_outcome (a_number n) = Some kind.Int
kind_of_outcome (a_truth b) = Some kind.Truth
kind_of_outcome (a_person p) = Some kind.Person
kind_of_outcome (a_moment m) = Some kind.Instant
kind_of_outcome nothing = None

-- ---- parts

abbrev pub outcome_of : Value → Outcome
outcome_of (values.Text x) = a_text x
outcome_of (values.Int n) = a_number n
outcome_of (values.Truth b) = a_truth b
outcome_of (values.Person p) = a_person (Some p)
outcome_of (values.Instant m) = a_moment m.0

-- what an unset part of this kind gives
abbrev pub unset : Option Kind → Outcome
unset (Some kind.Text) = a_text []
unset (Some kind.Int) = a_number (pos 0)
unset (Some kind.Truth) = a_truth false
unset (Some kind.Person) = a_person None
unset (Some kind.Instant) = a_moment 0
unset None = nothing

abbrev pub given_or_unset : Option Value → Option Kind → Outcome
given_or_unset (Some v) kind = outcome_of v
given_or_unset None kind = unset kind

-- ---- operands

abbrev pub text_in : Outcome → Option (List ℕ)
text_in (a_text x) = Some x
text_in _ = None

abbrev pub number_in : Outcome → Option ℤ
number_in (a_number n) = Some n
number_in _ = None

abbrev pub truth_in : Outcome → Option Bool
truth_in (a_truth b) = Some b
truth_in _ = None

abbrev pub person_in : Outcome → Option (Option ℕ)
person_in (a_person p) = Some p
person_in _ = None

abbrev pub moment_in : Outcome → Option ℕ
moment_in (a_moment m) = Some m
moment_in _ = None

abbrev pub of_number : Option ℤ → Outcome
of_number None = nothing
of_number (Some n) = a_number n

abbrev pub of_truth : Option Bool → Outcome
of_truth None = nothing
of_truth (Some b) = a_truth b

-- where both operands are there
abbrev pub on_both : {A B : Type 0} → (A → A → B) → Option A → Option A → Option B
on_both f None b = None
on_both f (Some a) None = None
on_both f (Some a) (Some b) = Some (f a b)

-- ---- operators

abbrev pub same_number : ℤ → ℤ → Bool
same_number a b = not (int_lt a b) && not (int_lt b a)

abbrev pub same_truth : Bool → Bool → Bool
same_truth true b = b
same_truth false b = not b

-- nobody equals nobody alone
abbrev pub same_person : Option ℕ → Option ℕ → Bool
same_person None None = true
same_person None (Some b) = false
same_person (Some a) None = false
same_person (Some a) (Some b) = a == b

abbrev pub is_equal : Outcome → Outcome → Option Bool
is_equal (a_text a) b = option_map (λ x. bytes_eq a x) (text_in b)
is_equal (a_number a) b = option_map (λ x. same_number a x) (number_in b)
is_equal (a_truth a) b = option_map (λ x. same_truth a x) (truth_in b)
is_equal (a_person a) b = option_map (λ x. same_person a x) (person_in b)
is_equal (a_moment a) b = option_map (λ x. a == x) (moment_in b)
is_equal nothing b = None

-- numbers and moments are ordered
abbrev pub is_less : Outcome → Outcome → Option Bool
is_less (a_number a) b = option_map (λ x. int_lt a x) (number_in b)
is_less (a_moment a) b = option_map (λ x. nat_lt a x) (moment_in b)
is_less _ b = None

-- Each whole number is the exact one, clamped.
abbrev pub operated : Operator → Outcome → Outcome → Outcome
operated operator.Or a b = of_truth (on_both (λ x y. x || y) (truth_in a) (truth_in b))
operated operator.And a b = of_truth (on_both (λ x y. x && y) (truth_in a) (truth_in b))
operated operator.Equal a b = of_truth (is_equal a b)
operated operator.NotEqual a b = of_truth (option_map not (is_equal a b))
operated operator.Less a b = of_truth (is_less a b)
operated operator.LessOrEqual a b = of_truth (option_map not (is_less b a))
operated operator.Greater a b = of_truth (is_less b a)
operated operator.GreaterOrEqual a b = of_truth (option_map not (is_less a b))
operated operator.Plus a b = of_number (on_both (λ x y. clamped (x +ℤ y)) (number_in a) (number_in b))
operated operator.Minus a b = of_number (on_both (λ x y. clamped (x -ℤ y)) (number_in a) (number_in b))
operated operator.Times a b = of_number (on_both (λ x y. clamped (x *ℤ y)) (number_in a) (number_in b))

-- the branch that the test chooses
abbrev pub chosen : Option Bool → Outcome → Outcome → Outcome
chosen None a b = nothing
chosen (Some true) a b = a
chosen (Some false) a b = b

-- ---- the value of an expression, a line a form

abbrev pub value : Declared → Env → Tree → Outcome
value kinds env (integer n) = a_number (clamped (pos n))
value kinds env (text x) = a_text x
value kinds env (truth b) = a_truth b
value kinds env priority = a_number env.priority
value kinds env initiator = a_person (Some env.initiator)
value kinds env (part side name) = given_or_unset (given env side name) (declared_kind kinds side name)
value kinds env (is_set side name) = a_truth (is_some (given env side name))
value kinds env (count c) = a_number (pos (counted c env.subs))
value kinds env (count_text p x) = a_number (pos (text_count p x env.subs))
value kinds env (count_true p) = a_number (pos (true_count p env.subs))
value kinds env (brackets e) = value kinds env e
value kinds env (negative e) = of_number (option_map (λ n. clamped (neg_ℤ n)) (number_in (value kinds env e)))
value kinds env (opposite e) = of_truth (option_map not (truth_in (value kinds env e)))
value kinds env (binary o l r) = operated o (value kinds env l) (value kinds env r)
value kinds env (choice test a b) = chosen (truth_in (value kinds env test)) (value kinds env a) (value kinds env b)
value kinds env _ = nothing

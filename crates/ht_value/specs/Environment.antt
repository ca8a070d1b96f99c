-- What an expression looks at: the values of a task's parts, its priority, its initiator and its sub tasks.
use Rattle.std.specs.Prelude.{ℕ, Bool, true, false, ◌&&◌, List, length, count_by, bytes_eq, Option, Some, None}
use Rattle.std.specs.List.{list_all}
use Rattle.ht_base.specs.declared.kind.Kind.{Kind}
use Rattle.ht_base.specs.declared.state.State.{State}
use Rattle.ht_base.specs.declared.value.Value.{Value}
use Rattle.ht_base.specs.declared.value.Value.TheVariants as values
use Rattle.ht_base.specs.Kinds.{kind_of_value}
use Rattle.ht_base.specs.State.{is_completed, is_final}
use Rattle.ht_base.specs.Values.{value_of}
use Rattle.ht_value.specs.declared.environment.Env.{Env}
use Rattle.ht_expr.specs.declared.kinds.Side.{Side}
use Rattle.ht_expr.specs.declared.kinds.Side.TheVariants.{Input, Output}
use Rattle.ht_expr.specs.declared.node.Count.{Count}
use Rattle.ht_expr.specs.declared.node.Count.TheVariants.{Made, Finished, Done}
use Rattle.ht_expr.specs.Kinds.{Declared, declared_kind}
use Rattle.ht_expr.specs.KindTable.{same_kind}

-- ---- parts

-- the value of a part, if it has one
abbrev pub given : Env → Side → List ℕ → Option Value
given env Input name = value_of name env.input
given env Output name = value_of name env.output

-- the value is of the kind that is declared, if one is
abbrev pub may_be : Option Kind → Value → Bool
may_be None v = true
may_be (Some kind) v = same_kind kind (kind_of_value v)

abbrev pub values_fit : Declared → Side → List (List ℕ × Value) → Bool
values_fit kinds side vs = list_all (λ v. may_be (declared_kind kinds side v.0) v.1) vs

-- each declared part that has a value has one of its kind
abbrev pub has_parts : Declared → Env → Bool
has_parts kinds env = values_fit kinds Input env.input && values_fit kinds Output env.output

-- ---- sub tasks, each by its state and the values of its output parts

abbrev pub SubTask : Type 0
SubTask = State × List (List ℕ × Value)

abbrev pub counted : Count → List SubTask → ℕ
counted Made subs = length subs
counted Finished subs = count_by (λ s. is_final s.0) subs
counted Done subs = count_by (λ s. is_completed s.0) subs

abbrev pub is_text : List ℕ → Option Value → Bool
is_text x (Some (values.Text t)) = bytes_eq t x
is_text x _ = false

abbrev pub is_true : Option Value → Bool
is_true (Some (values.Truth b)) = b
is_true _ = false

-- completed sub tasks whose output part of this name is set, of kind text, and equal to the text
abbrev pub text_count : List ℕ → List ℕ → List SubTask → ℕ
text_count p x subs = count_by (λ s. is_completed s.0 && is_text x (value_of p s.1)) subs

-- completed sub tasks whose output part of this name is set and true
abbrev pub true_count : List ℕ → List SubTask → ℕ
true_count p subs = count_by (λ s. is_completed s.0 && is_true (value_of p s.1)) subs

-- The values that the settings of a finish are made of, and settings one after another.
use Rattle.std.proofs.Common.{◌≡◌, ℕ, Bool, true, false, List, [], ◌∷◌, ◌++◌, All, Option, None, Some, IfSome, if◌then◌else◌, refl, ap}
use Rattle.std.specs.Prelude.{filter_map}
use Rattle.std.specs.List.{cons_option}
use Rattle.std.proofs.lemmas.List.Elements.{All-cons, All-head, All-nil, All-tail}
use Rattle.ht_aggregate.specs.Aggregates.{IsAggregate}
use Rattle.ht_base.specs.declared.how.How.{How}
use Rattle.ht_base.specs.declared.kind.Kind.{Kind}
use Rattle.ht_base.specs.declared.kind.Kind.TheVariants.{Text, Int, Truth, Person, Instant}
use Rattle.ht_base.specs.declared.value.Value.{Value}
use Rattle.ht_base.specs.declared.values.Values.{Values}
use Rattle.ht_base.specs.Kinds.{kind_of_how, kind_of_value}
use Rattle.ht_base.specs.Values.{value_of}
use Rattle.ht_compose.specs.Finishes.{Sets, of_kind, values_for, with_result}
use Rattle.ht_expr.specs.KindTable.{same_kind}
use Rattle.ht_entries.specs.Finishes.{Setting}
use Rattle.ht_tree.specs.declared.row.Row.{Row}

-- what is kept of each of a list has a property, where it has it of each with another one
pub kept_all : {X Y : Type 0} (Q : X → Type 0) (P : Y → Type 0) (h : X → Option Y) → ((x : X) → Q x → IfSome (h x) P) → (xs : List X) → All Q xs → All P (filter_map h xs)
kept_all Q P h each [] all = All-nil P
kept_all {X = X} {Y = Y} Q P h each (x ∷ xs) all = at (h x) (each x (All-head Q x xs all)) (kept_all Q P h each xs (All-tail Q x xs all))
  where
    at : (o : Option Y) → IfSome o P → All P (filter_map h xs) → All P (cons_option o (filter_map h xs))
    at None one rest = rest
    at (Some y) one rest = All-cons P y (filter_map h xs) one rest

-- ---- values of one kind

pub same_is : (a b : Kind) → same_kind a b ≡ true → b ≡ a
same_is Text Text is = refl
same_is Int Int is = refl
same_is Truth Truth is = refl
same_is Person Person is = refl
same_is Instant Instant is = refl
same_is a b is = absurd (cc)

one_kind : (kind : Kind) (o : Option Value) → IfSome (of_kind kind o) (λ v. kind_of_value v ≡ kind)
one_kind kind None = tt
one_kind kind (Some v) = at (same_kind kind (kind_of_value v)) refl
  where
    at : (b : Bool) → same_kind kind (kind_of_value v) ≡ b → IfSome (if b then Some v else None) (λ v. kind_of_value v ≡ kind)
    at true is = same_is kind (kind_of_value v) is
    at false is = tt

pub kinds_for : (how : How) (from : List ℕ) (subs : List Row) → All (λ v. kind_of_value v ≡ kind_of_how how) (values_for how from subs)
kinds_for how from subs =
    kept_all (λ (s : Row). Unit {0}) (λ v. kind_of_value v ≡ kind_of_how how) (λ s. of_kind (kind_of_how how) (value_of from s.output))
    (λ s is. one_kind (kind_of_how how) (value_of from s.output)) subs (λ k d low. tt)

-- ---- one setting more

pub one_more_set : (subs : List Row) (ss : List Setting) (s : Setting) (old mid : Values) (result : Option Value) → Sets subs ss old mid → IsAggregate s.how (values_for s.how s.from subs) result → Sets subs (ss ++ s ∷ []) old (with_result s.part result mid)
one_more_set subs [] s old mid result set is = (result, is, ap (λ (vs : Values). with_result s.part result vs) set)
one_more_set subs (x ∷ ss) s old mid result set is = (set.0, set.1, one_more_set subs ss s (with_result x.part set.0 old) mid result set.2 is)

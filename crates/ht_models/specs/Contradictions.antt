-- Keys of a model that contradict one another.
use Rattle.std.specs.Prelude.{ℕ, ◌-◌, Bool, true, false, not, ◌&&◌, ◌||◌, is_none, is_some, List, length, take, Option, Some, None}
use Rattle.std.specs.List.{list_any}
use Rattle.std.specs.Option.{option_and_then}
use Rattle.ht_base.specs.declared.kind.Kind.{Kind}
use Rattle.ht_base.specs.declared.kind.Kind.TheVariants.{Instant}
use Rattle.ht_expr.specs.declared.kinds.Side.TheVariants.{Input, Output}
use Rattle.ht_expr.specs.Kinds.{Declared, declared_kind}
use Rattle.ht_expr.specs.KindTable.{is_of_kind}
use Rattle.ht_entries.specs.declared.choices.Trigger.{Trigger}
use Rattle.ht_entries.specs.declared.choices.Trigger.TheVariants.{Manual, Automatic}
use Rattle.ht_base.specs.Kinds.{kind_of_how}
use Rattle.ht_entries.specs.Deadlines.{DeadlineText}
use Rattle.ht_models.specs.Expressions.{declared}
use Rattle.ht_entries.specs.Finishes.{FinishText, Setting}
use Rattle.ht_entries.specs.ModelEntries.{ModelEntry}
use Rattle.ht_entries.specs.SubEntries.{SubEntry}
use Rattle.ht_models.specs.SubTrees.{model_named}

-- ---- kinds of parts

-- of an input part of a model, where there is the model
abbrev pub input_kind : Option ModelEntry → List ℕ → Option Kind
input_kind model name = option_and_then (λ m. declared_kind (declared m) Input name) model

-- both are there, and of one kind
abbrev pub are_one : Option Kind → Option Kind → Bool
are_one None b = false
are_one (Some a) b = is_of_kind a b

-- ---- the contradictions

abbrev pub reassigns : DeadlineText → Bool
reassigns d = list_any (λ e. is_some e.reassign) d.escalations

-- tasks that need no owner are given owners
abbrev pub owns_without_need : ModelEntry → Bool
owns_without_need m =
    not m.owner_required
    && (is_some m.potential_owners || is_some m.delegation || is_some m.delegatees || list_any reassigns m.deadlines)

abbrev pub is_automatic : Trigger → Bool
is_automatic Manual = false
is_automatic Automatic = true

-- tasks that need no owner wait for one
abbrev pub waits_for_owner : ModelEntry → Bool
waits_for_owner m = not m.owner_required && not (is_automatic m.instantiation && is_automatic m.completion)

-- an input part of a sub task is unknown, or the part that it takes its value from, or they have two kinds
abbrev pub is_unfit_pair : Option ModelEntry → Declared → List ℕ × List ℕ → Bool
is_unfit_pair model kinds pair = not (are_one (input_kind model pair.0) (declared_kind kinds Input pair.1))

abbrev pub misses_parts : List ModelEntry → Declared → SubEntry → Bool
misses_parts t kinds s = list_any (is_unfit_pair (model_named t s.model) kinds) s.input

abbrev pub has_unfit_sub : List ModelEntry → ModelEntry → Bool
has_unfit_sub t m = list_any (misses_parts t (declared m)) m.subs

-- the part of a deadline isn't an input of kind instant
abbrev pub is_undated : Declared → Option (List ℕ) → Bool
is_undated kinds None = false
is_undated kinds (Some name) = not (is_of_kind Instant (declared_kind kinds Input name))

abbrev pub has_undated_deadline : ModelEntry → Bool
has_undated_deadline m = list_any (λ d. is_undated (declared m) d.part) m.deadlines

-- a finish sets a part that isn't an output of the aggregate's kind
abbrev pub is_unfit : Declared → Setting → Bool
is_unfit kinds s = not (is_of_kind (kind_of_how s.how) (declared_kind kinds Output s.part))

abbrev pub has_unfit_finish : ModelEntry → Bool
has_unfit_finish m = list_any (λ f. list_any (is_unfit (declared m)) f.settings) m.finishes

-- a finish without a condition isn't the last
abbrev pub has_early_default : List FinishText → Bool
has_early_default finishes = list_any (λ f. is_none f.when) (take (length finishes - 1) finishes)

abbrev pub is_contradicted : List ModelEntry → ModelEntry → Bool
is_contradicted t m =
    owns_without_need m
    || waits_for_owner m
    || has_unfit_sub t m
    || has_undated_deadline m
    || has_unfit_finish m
    || has_early_default m.finishes

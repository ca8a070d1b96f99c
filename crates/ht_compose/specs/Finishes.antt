-- How a composite task finishes, and what it has of its sub tasks then (WS-HumanTask 1.1, 4.8).
use Rattle.std.specs.Prelude.{◌≡◌, ℕ, zero, suc, Bool, true, false, ◌&&◌, List, [], ◌∷◌, ◌++◌, length, filter, filter_map, find, is_none, Option, None, Some, if◌then◌else◌}
use Rattle.std.specs.List.{list_any}
use Rattle.std.specs.Option.{option_map_or, option_or}
use Rattle.ht_aggregate.specs.Aggregates.{IsAggregate}
use Rattle.ht_base.specs.declared.how.How.{How}
use Rattle.ht_base.specs.declared.kind.Kind.{Kind}
use Rattle.ht_base.specs.declared.value.Value.{Value}
use Rattle.ht_base.specs.declared.values.Values.{Values}
use Rattle.ht_base.specs.Kinds.{kind_of_how, kind_of_value}
use Rattle.ht_base.specs.Values.{put, value_of}
use Rattle.ht_base.specs.State.{is_completed, is_final}
use Rattle.ht_tree.specs.Families.{is_of_entry}
use Rattle.ht_value.specs.declared.environment.Env.{Env}
use Rattle.ht_expr.specs.Kinds.{Declared}
use Rattle.ht_expr.specs.KindTable.{same_kind}
use Rattle.ht_expr.specs.Trees.{Tree}
use Rattle.ht_value.specs.Values.{value}
use Rattle.ht_entries.specs.Finishes.{Setting}
use Rattle.ht_models.specs.Kinded.{parts_of}
use Rattle.ht_models.specs.Model.{FinishOf, ModelOf}
use Rattle.ht_tree.specs.declared.row.Row.{Row}
use Rattle.ht_finding.specs.Assigning.{is_true}
use Rattle.ht_tree.specs.Creating.{sees}

-- ---- the finish that is chosen

abbrev pub holds : Declared → Env → Tree → Bool
holds kinds env condition = is_true (value kinds env condition)

-- its condition is true
abbrev pub applies : Declared → Env → FinishOf → Bool
applies kinds env f = option_map_or (holds kinds env) f.when false

-- the entry is made, and its sub task has ended
abbrev pub entry_ended : ℕ → ℕ → List Row → Bool
entry_ended task entry rows = list_any (λ s. is_of_entry task entry s && is_final s.state) rows

-- each of as many entries
abbrev pub all_ended : ℕ → ℕ → List Row → Bool
all_ended task zero rows = true
all_ended task (suc n) rows = all_ended task n rows && entry_ended task n rows

-- the finish without a condition
abbrev pub default : List FinishOf → Option FinishOf
default finishes = find (λ f. is_none f.when) finishes

-- the first whose condition is true of what is seen
abbrev pub first_true : ModelOf → Env → Option FinishOf
first_true m env = find (applies (parts_of m.input m.output) env) m.finishes

-- The first whose condition is true. Where there is none, and every entry of the task has come and gone
-- among these rows, it is the one without a condition.
abbrev pub chosen_by : Env → List Row → ModelOf → ℕ → Option FinishOf
chosen_by env rows m task =
    option_or (first_true m env) (if all_ended task (length m.subs) rows then default m.finishes else None)

-- of the task of a row, by what its row sees
abbrev pub chosen : List Row → ModelOf → Row → Option FinishOf
chosen rows m row = chosen_by (sees rows row) rows m row.task.0

-- ---- what it sets

-- the completed sub task of an entry, where it is there
abbrev pub completed_of : ℕ → ℕ → List Row → List Row
completed_of task entry rows = filter (λ s. is_of_entry task entry s && is_completed s.state) rows

-- those of as many entries, in the order of the entries
abbrev pub completed : ℕ → ℕ → List Row → List Row
completed task zero rows = []
completed task (suc n) rows = completed task n rows ++ completed_of task n rows

abbrev pub of_kind : Kind → Option Value → Option Value
of_kind kind None = None
of_kind kind (Some v) = if same_kind kind (kind_of_value v) then Some v else None

-- their values of an output part, where it is set and of the aggregate's kind
abbrev pub values_for : How → List ℕ → List Row → List Value
values_for how from subs = filter_map (λ s. of_kind (kind_of_how how) (value_of from s.output)) subs

-- no result leaves the part as it was
abbrev pub with_result : List ℕ → Option Value → Values → Values
with_result part None output = output
with_result part (Some v) output = put part v output

-- the output of a task, when all of these are set one after another
abbrev pub Sets : List Row → List Setting → Values → Values → Type 0
Sets subs [] old new = new ≡ old
Sets subs (s ∷ ss) old new = (result : Option Value) × IsAggregate s.how (values_for s.how s.from subs) result × Sets subs ss (with_result s.part result old) new

-- the output of a task that finishes so
abbrev pub HasResults : List Row → ModelOf → Row → FinishOf → Values → Type 0
HasResults rows m row f output = Sets (completed row.task.0 (length m.subs) rows) f.settings row.output output

-- What is due of the tasks, and when (WS-HumanTask 1.1, 4.9): deferred activations, the ends of
-- suspensions, and the deadlines that are neither taken nor obsolete.
use Rattle.std.specs.Prelude.{ℕ, zero, suc, ◌+◌, ◌==◌, max, Bool, ◌||◌, List, [], ◌∷◌, ◌++◌, filter, nat_le, slice_get, Option, Some, None, option_map, if◌then◌else◌}
use Rattle.std.specs.List.{flat_map}
use Rattle.std.specs.Option.{option_map_or}
use Rattle.ht_base.specs.declared.moment.Moment.{Moment}
use Rattle.ht_base.specs.declared.value.Value.{Value}
use Rattle.ht_base.specs.declared.value.Value.TheVariants as values
use Rattle.ht_base.specs.declared.values.Values.{Values}
use Rattle.ht_base.specs.Moment.{later_by}
use Rattle.ht_base.specs.Persons.{has}
use Rattle.ht_base.specs.Values.{value_of}
use Rattle.ht_due.specs.declared.due.Due.{Due}
use Rattle.ht_due.specs.Dues.{in_order}
use Rattle.ht_entries.specs.declared.deadlines.DeadlineKind.{DeadlineKind}
use Rattle.ht_entries.specs.declared.deadlines.DeadlineKind.TheVariants.{Start, Completion}
use Rattle.ht_models.specs.Model.{DeadlineOf, ModelOf}
use Rattle.ht_tree.specs.declared.row.Row.{Row}
use Rattle.ht_base.specs.State.{is_final}
use Rattle.ht_tree.specs.Rows.{model_in, row_at}
use Rattle.ht_tree.specs.Tables.{TablesOf}

-- ---- the moment of a deadline

abbrev pub later_moment : Moment → Moment → Moment
later_moment a b = record { 0 = max a.0 b.0 }

-- the moment that a value is, where it is one
abbrev pub moment_in : Option Value → Option Moment
moment_in (Some (values.Instant moment)) = Some moment
moment_in _ = None

-- so long after the creation, or at a point in time, or at that of an input part, where it is set: but
-- not before the creation
abbrev pub moment_by : Moment → Values → Option ℕ → Option Moment → Option (List ℕ) → Option Moment
moment_by made input (Some period) at part = Some (later_by made period)
moment_by made input None (Some at) part = Some (later_moment made at)
moment_by made input None None (Some name) = option_map (λ at. later_moment made at) (moment_in (value_of name input))
moment_by made input None None None = None

abbrev pub deadline_moment : Row → DeadlineOf → Option Moment
deadline_moment row d = moment_by row.created row.input d.period d.at d.part

-- ---- the dues of a row

-- the row's action of a kind that is due at this moment, if there is one
abbrev pub due_of : Row → ℕ → ℕ → Option Moment → List Due
due_of row kind place None = []
due_of row kind place (Some at) = record { at = at; task = row.task; kind = kind; place = place } ∷ []

-- a start deadline is obsolete once the task was started, and each once it has ended
abbrev pub is_obsolete : DeadlineKind → Row → Bool
is_obsolete Start row = row.started || is_final row.state
is_obsolete Completion row = is_final row.state

abbrev pub kind_of : DeadlineKind → ℕ
kind_of Start = 2
kind_of Completion = 3

-- when the deadline at a place of the row's model is due: it isn't taken and isn't obsolete
abbrev pub open_moment : Row → ℕ → DeadlineOf → Option Moment
open_moment row place d = if has place row.taken || is_obsolete d.kind row then None else deadline_moment row d

abbrev pub deadline_due : Row → ℕ → DeadlineOf → List Due
deadline_due row place d = due_of row (kind_of d.kind) place (open_moment row place d)

-- those from a place on
abbrev pub deadline_dues : Row → ℕ → List DeadlineOf → List Due
deadline_dues row place [] = []
deadline_dues row place (d ∷ ds) = deadline_due row place d ++ deadline_dues row (place + 1) ds

abbrev pub deadlines_of : List ModelOf → Row → List DeadlineOf
deadlines_of models row = option_map_or (λ m. m.deadlines) (model_in models row) []

-- when its action of a kind, of the deadline at a place, is due
abbrev pub deadline_as : Row → ℕ → ℕ → Option DeadlineOf → Option Moment
deadline_as row kind place None = None
deadline_as row kind place (Some d) = if kind == kind_of d.kind then open_moment row place d else None

abbrev pub moment_as : List ModelOf → Row → ℕ → ℕ → Option Moment
moment_as models row zero zero = row.waits
moment_as models row (suc zero) zero = row.until
moment_as models row kind place = deadline_as row kind place (slice_get (deadlines_of models row) place)

-- its activation where it waits, the end of its suspension where that is set, and its deadlines
abbrev pub row_dues : List ModelOf → Row → List Due
row_dues models row = due_of row 0 0 row.waits ++ due_of row 1 0 row.until ++ deadline_dues row 0 (deadlines_of models row)

-- ---- the dues of all rows

abbrev pub all_dues : TablesOf → List Due
all_dues t = in_order (flat_map (row_dues t.models) t.rows)

-- those that are due by a moment, and the first of them
abbrev pub due_by : TablesOf → ℕ → List Due
due_by t by = filter (λ d. nat_le d.at.0 by) (all_dues t)

abbrev pub first_due : TablesOf → ℕ → Option Due
first_due t by = slice_get (due_by t by) 0

-- ---- the dues of the rows that are changed

-- those of the row of a task, if there is one
abbrev pub task_dues : List ModelOf → List Row → ℕ → List Due
task_dues models rows task = option_map_or (row_dues models) (row_at task rows) []

-- those of the tasks of which rows are put, in ascending order
abbrev pub changed_dues : List ModelOf → List Row → List Row → List Due
changed_dues models rows puts = in_order (flat_map (λ row. task_dues models rows row.task.0) puts)

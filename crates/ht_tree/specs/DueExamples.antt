-- Worked examples of what is due. A wrong reading of a definition fails the check.
use Rattle.std.specs.Prelude.{◌≡◌, refl, ℕ, List, [], ◌∷◌, Option, Some, None, codes, pos, true}
use Rattle.ht_base.specs.declared.moment.Moment.{Moment}
use Rattle.ht_base.specs.declared.state.State.TheVariants.{Completed, InProgress, SuspendedReady}
use Rattle.ht_base.specs.declared.value.Value.TheVariants as values
use Rattle.ht_base.specs.Moment.{last_moment}
use Rattle.ht_due.specs.declared.due.Due.{Due}
use Rattle.ht_models.specs.BuiltIn.{plain_model}
use Rattle.ht_entries.specs.declared.deadlines.DeadlineKind.{DeadlineKind}
use Rattle.ht_entries.specs.declared.deadlines.DeadlineKind.TheVariants.{Start, Completion}
use Rattle.ht_models.specs.Model.{DeadlineOf, ModelOf}
use Rattle.ht_tree.specs.declared.row.Row.{Row}
use Rattle.ht_tree.specs.Creating.{bare_row}
use Rattle.ht_finding.specs.Examples.{office}
use Rattle.ht_tree.specs.RowDues.{all_dues, changed_dues, deadline_moment, row_dues}
use Rattle.ht_tree.specs.Tables.{empty_tables}

abbrev at : ℕ → Moment
at n = record { 0 = n }

abbrev due : ℕ → ℕ → ℕ → ℕ → Due
due moment task kind place = record { at = at moment; task = record { 0 = task }; kind = kind; place = place }

abbrev deadline : List ℕ → DeadlineKind → ℕ → DeadlineOf
deadline name kind period = record { name = name; kind = kind; period = Some period; at = None; part = None; escalations = [] }

-- to be completed in ten seconds, twice
abbrev timed : ModelOf
timed = record (plain_model (codes "timed")) { deadlines = deadline (codes "one") Completion 10000 ∷ deadline (codes "two") Completion 10000 ∷ [] }

-- to be started in five
abbrev late : ModelOf
late = record (plain_model (codes "late")) { deadlines = deadline (codes "begin") Start 5000 ∷ [] }

abbrev models : List ModelOf
models = timed ∷ late ∷ []

-- a task of the model at a place, created at 1000
abbrev task : ℕ → ℕ → Row
task number place = bare_row (record { 0 = number }) place None 3 [] None (at 1000)

-- ---- of one row

both_of_timed : row_dues models (task 1 0) ≡ due 11000 1 3 0 ∷ due 11000 1 3 1 ∷ []
both_of_timed = refl

the_start_of_late : row_dues models (task 1 1) ≡ due 6000 1 2 0 ∷ []
the_start_of_late = refl

-- one that was taken isn't due again, and the other keeps its place
one_was_taken : row_dues models (record (task 1 0) { taken = 0 ∷ [] }) ≡ due 11000 1 3 1 ∷ []
one_was_taken = refl

-- a started task keeps its completion deadlines, and has no start deadlines
started_timed : row_dues models (record (task 1 0) { started = true; state = InProgress }) ≡ due 11000 1 3 0 ∷ due 11000 1 3 1 ∷ []
started_timed = refl

started_late : row_dues models (record (task 1 1) { started = true; state = InProgress }) ≡ []
started_late = refl

-- one that has ended has none, though it never was started
ended_timed : row_dues models (record (task 1 0) { state = Completed }) ≡ []
ended_timed = refl

ended_late : row_dues models (record (task 1 1) { state = Completed }) ≡ []
ended_late = refl

-- deadlines run on in a suspension, of which the end is due
suspended_late : row_dues models (record (task 1 1) { state = SuspendedReady; until = Some (at 7000) }) ≡ due 7000 1 1 0 ∷ due 6000 1 2 0 ∷ []
suspended_late = refl

waiting : row_dues models (record (task 1 1) { waits = Some (at 5000) }) ≡ due 5000 1 0 0 ∷ due 6000 1 2 0 ∷ []
waiting = refl

-- ---- the moments of deadlines

abbrev by : Option ℕ → Option Moment → Option (List ℕ) → DeadlineOf
by period point part = record (deadline (codes "d") Start 0) { period = period; at = point; part = part }

abbrev given : Moment → Row
given moment = record (task 1 0) { input = (codes "when", values.Instant moment) ∷ [] }

by_a_period : deadline_moment (task 1 0) (by (Some 5000) None None) ≡ Some (at 6000)
by_a_period = refl

by_the_last_moment : deadline_moment (task 1 0) (by (Some 253402300799999) None None) ≡ Some (at last_moment)
by_the_last_moment = refl

at_a_point : deadline_moment (task 1 0) (by None (Some (at 5000)) None) ≡ Some (at 5000)
at_a_point = refl

at_a_point_before : deadline_moment (task 1 0) (by None (Some (at 999)) None) ≡ Some (at 1000)
at_a_point_before = refl

by_a_part : deadline_moment (given (at 5000)) (by None None (Some (codes "when"))) ≡ Some (at 5000)
by_a_part = refl

by_a_part_before : deadline_moment (given (at 999)) (by None None (Some (codes "when"))) ≡ Some (at 1000)
by_a_part_before = refl

by_an_unset_part : deadline_moment (given (at 5000)) (by None None (Some (codes "then"))) ≡ None
by_an_unset_part = refl

by_a_part_of_another_kind : deadline_moment (record (task 1 0) { input = (codes "when", values.Int (pos 5000)) ∷ [] }) (by None None (Some (codes "when"))) ≡ None
by_a_part_of_another_kind = refl

-- ---- of all rows

-- by moment, and at one moment by task, kind and place
all_of_them : all_dues (record (empty_tables models office) { rows = record (task 1 0) { waits = Some (at 11000) } ∷ task 2 1 ∷ record (task 3 0) { waits = Some (at 6000) } ∷ [] }) ≡ due 6000 2 2 0 ∷ due 6000 3 0 0 ∷ due 11000 1 0 0 ∷ due 11000 1 3 0 ∷ due 11000 1 3 1 ∷ due 11000 3 3 0 ∷ due 11000 3 3 1 ∷ []
all_of_them = refl

-- those of a task once, though its row is put twice
changed : changed_dues models (task 1 0 ∷ task 2 1 ∷ []) (record (task 2 1) { started = true } ∷ task 3 0 ∷ task 2 1 ∷ []) ≡ due 6000 2 2 0 ∷ []
changed = refl

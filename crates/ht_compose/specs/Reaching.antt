-- What reaches tasks below another, row by row, and plans that go over the rows of a tree from the last one on.
use Rattle.std.specs.Prelude.{◌≡◌, ℕ, ◌==◌, Bool, false, not, ◌&&◌, ◌||◌, List, map, Some, IsTrue, if◌then◌else◌}
use Rattle.ht_base.specs.declared.state.State.{State}
use Rattle.ht_base.specs.declared.state.State.TheVariants.{Obsolete}
use Rattle.ht_base.specs.declared.task_id.TaskId.{TaskId}
use Rattle.ht_base.specs.State.{contains_state, is_final}
use Rattle.ht_rules.specs.States.{opened}
use Rattle.ht_compose.specs.declared.reaching.Change.{Change}
use Rattle.ht_compose.specs.declared.reaching.Change.TheVariants as change
use Rattle.ht_compose.specs.declared.reaching.Reach.{Reach}
use Rattle.ht_compose.specs.declared.reaching.Reach.TheVariants as reach
use Rattle.ht_compose.specs.Downward.{end_below, ended, freed, held}
use Rattle.ht_compose.specs.Families.{is_above}
use Rattle.ht_index.specs.Indexes.{has}
use Rattle.ht_tree.specs.declared.row.Row.{Row}
use Rattle.ht_tree.specs.Plans.{Goes, PlanOf, planned}
use Rattle.ht_tree.specs.Soundness.{is_suspended}
use Rattle.ht_tree.specs.Tables.{TablesOf, task_row, with_row, with_rows}

-- ---- of one row

-- it changes a task in this state
abbrev pub touches : Change → State → Bool
touches change.Nothing state = false
touches (change.End end) state = not (is_final state)
touches change.Hold state = contains_state opened state
touches change.Free state = is_suspended state

abbrev pub changed : Change → Row → Row
changed change.Nothing row = row
changed (change.End end) row = ended end row
changed change.Hold row = held row
changed change.Free row = freed row

-- what comes of a row, among these, of what reaches those below the task
abbrev pub reached : Reach → List Row → ℕ → Row → Row
reached (reach.Close end) rows task row = if row.task.0 == task then ended end row else (if is_above rows task row then ended (end_below end) row else row)
reached reach.Skip rows task row = if is_above rows task row then ended Obsolete row else row
reached reach.Hold rows task row = if is_above rows task row then held row else row
reached reach.Free rows task row = if is_above rows task row then freed row else row

-- whether it changes the row
abbrev pub changes : Reach → List Row → ℕ → Row → Bool
changes (reach.Close end) rows task row = (row.task.0 == task || is_above rows task row) && not (is_final row.state)
changes reach.Skip rows task row = is_above rows task row && not (is_final row.state)
changes reach.Hold rows task row = is_above rows task row && contains_state opened row.state
changes reach.Free rows task row = is_above rows task row && is_suspended row.state

-- a task ends only in a final state
abbrev pub ReachIsFinal : Reach → Type 0
ReachIsFinal (reach.Close end) = IsTrue (is_final end)
ReachIsFinal _ = Unit {0}

-- a task that is there
pub record IsTask (u : TablesOf) (task : ℕ) : Type 0 where
  pub row : Row
  pub there : task_row u task ≡ Some row
  pub number : row.task.0 ≡ task

-- the plan goes on by what comes of the row of a task
pub record Reaches (t : TablesOf) (old new : PlanOf) (task : ℕ) (what : Reach) (id : ℕ) : Type 0 where
  pub row : Row
  pub there : task_row (planned t old) id ≡ Some row
  pub goes : Goes t old new (planned t old) (with_row (planned t old) (reached what (planned t old).rows task row))

-- ---- of all rows

-- of those that are not among these
abbrev pub reached_but : List TaskId → Reach → List Row → ℕ → List Row
reached_but left what rows task = map (λ row. if has row.task.0 left then row else reached what rows task row) rows

abbrev pub all_reached : Reach → List Row → ℕ → List Row
all_reached what rows task = map (λ row. reached what rows task row) rows

-- the plan goes on by what comes of all rows
abbrev pub ReachesAll : TablesOf → PlanOf → PlanOf → ℕ → Reach → Type 0
ReachesAll t old new task what = Goes t old new (planned t old) (with_rows (planned t old) (all_reached what (planned t old).rows task))

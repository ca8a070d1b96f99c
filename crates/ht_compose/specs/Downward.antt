-- What of a task reaches all tasks below it (WS-HumanTask 1.1, 4.7): each is one map over all rows.
use Rattle.std.specs.Prelude.{ℕ, ◌==◌, List, map, None, if◌then◌else◌}
use Rattle.ht_base.specs.declared.operation.Op.{Op}
use Rattle.ht_base.specs.declared.operation.Op.TheVariants.{Resume, Suspend}
use Rattle.ht_base.specs.declared.state.State.{State}
use Rattle.ht_base.specs.declared.state.State.TheVariants.{Exited, Obsolete}
use Rattle.ht_base.specs.State.{contains_state, is_final}
use Rattle.ht_rules.specs.declared.changes.After.{After}
use Rattle.ht_rules.specs.declared.changes.After.TheVariants as after
use Rattle.ht_rules.specs.Changes.{changing}
use Rattle.ht_rules.specs.States.{opened}
use Rattle.ht_compose.specs.Families.{is_above}
use Rattle.ht_tree.specs.declared.row.Row.{Row}
use Rattle.ht_tree.specs.Soundness.{is_suspended}

-- each row below the task becomes what is said, and the others stay
abbrev pub below : (Row → Row) → ℕ → List Row → List Row
below change task rows = map (λ row. if is_above rows task row then change row else row) rows

-- ---- ends

-- It has ended in this state, and keeps its owner as the last one. It waits no more, and isn't
-- suspended.
abbrev pub closed : State → Row → Row
closed end row = record row { state = end; owner = None; last_owner = row.owner; waits = None; until = None }

-- unless it had ended
abbrev pub ended : State → Row → Row
ended end row = if is_final row.state then row else closed end row

-- how the tasks below one that ends do so
abbrev pub end_below : State → State
end_below Obsolete = Obsolete
end_below _ = Exited

-- a task ends, and all below it with it
abbrev pub closing : State → ℕ → List Row → List Row
closing end task rows = map (λ row. if row.task.0 == task then ended end row else (if is_above rows task row then ended (end_below end) row else row)) rows

-- all below it are skipped, and the task stays
abbrev pub skipping : ℕ → List Row → List Row
skipping task rows = below (ended Obsolete) task rows

-- ---- suspension

abbrev pub state_to : After → State → State
state_to (after.To state) old = state
state_to _ old = old

-- in the state to which the operation moves it, by the table of changes
abbrev pub moved_by : Op → State → State
moved_by op state = state_to (changing state op).after state

-- an open task takes its suspended form
abbrev pub held : Row → Row
held row = if contains_state opened row.state then record row { state = moved_by Suspend row.state } else row

-- a suspended one returns to the state before, and no end of its suspension is left
abbrev pub freed : Row → Row
freed row = if is_suspended row.state then record row { state = moved_by Resume row.state; until = None } else row

abbrev pub holding : ℕ → List Row → List Row
holding task rows = below held task rows

abbrev pub freeing : ℕ → List Row → List Row
freeing task rows = below freed task rows

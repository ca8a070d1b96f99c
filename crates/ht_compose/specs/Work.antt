-- How much is still to be done on composite tasks, and that its end is always reached.
use Rattle.std.specs.Prelude.{◌≡◌, ℕ, ◌+◌, ◌*◌, true, List, [], ◌∷◌, Some, if◌then◌else◌}
use Rattle.std.specs.List.{AllByRecursion}
use Rattle.ht_base.specs.declared.moment.Moment.{Moment}
use Rattle.ht_compose.specs.Agenda.{Ends}
use Rattle.ht_compose.specs.Items.{Does, Item}
use Rattle.ht_compose.specs.Items.Item.{Close}
use Rattle.ht_models.specs.TreeSizes.{AreSized}
use Rattle.ht_tree.specs.declared.row.Row.{Row}
use Rattle.ht_base.specs.State.{is_final}
use Rattle.ht_tree.specs.Families.{to_come}
use Rattle.ht_tree.specs.Rows.{row_at}
use Rattle.ht_tree.specs.Tables.{TablesOf}

-- how many of these tasks haven't ended
abbrev pub going_on : List Row → ℕ
going_on [] = 0
going_on (row ∷ rows) = (if is_final row.state then 0 else 1) + going_on rows

-- Twice the tasks to come, and the tasks that haven't ended. It is less where a sub task is made, and
-- where a task is closed.
abbrev pub work : TablesOf → ℕ
work u = 2 * to_come u.models u.rows + going_on u.rows

-- ---- the end is always reached

abbrev pub AreNumbered : List Row → Type 0
AreNumbered rows = (task : ℕ) (row : Row) → row_at task rows ≡ Some row → row.task.0 ≡ task

-- a task is closed in a state of those that have ended
abbrev pub ClosesForGood : Item → Type 0
ClosesForGood (Close task end) = is_final end ≡ true
ClosesForGood _ = Unit {0}

-- what is to be done with these tables has an end
pub record CanEnd (u : TablesOf) (items : List Item) : Type 0 where
  -- the rows are in the order of their numbers
  pub numbered : AreNumbered u.rows
  -- each model's tree is counted
  pub sized : AreSized u.models
  pub closings : AllByRecursion ClosesForGood items

abbrev pub AlwaysEnds : Moment → Type 0
AlwaysEnds at = (u : TablesOf) (items : List Item) → CanEnd u items → (v : TablesOf) × Ends (Does at) u items v

-- A task with all tasks below it (WS-HumanTask 1.1, 4.7 "Composite tasks").
use Rattle.std.specs.Prelude.{◌≡◌, ℕ, ◌==◌, Bool, false, ◌||◌, List}
use Rattle.std.specs.Option.{option_map_or}
use Rattle.ht_base.specs.declared.task_id.TaskId.{TaskId}
use Rattle.ht_compose.specs.Families.{is_above}
use Rattle.ht_index.specs.Indexes.{Ascends, has}
use Rattle.ht_tree.specs.declared.row.Row.{Row}
use Rattle.ht_tree.specs.ListedBy.{ids_by}
use Rattle.ht_tree.specs.Rows.{row_at}

-- the row is the task's, or of one below it
abbrev pub is_of_tree : List Row → ℕ → Row → Bool
is_of_tree rows task row = (row.task.0 == task) || is_above rows task row

-- in the order of their numbers
abbrev pub tree_ids : ℕ → List Row → List TaskId
tree_ids task rows = ids_by (is_of_tree rows task) rows

-- the task of this number is one of them
abbrev pub in_tree : List Row → ℕ → ℕ → Bool
in_tree rows task id = option_map_or (is_of_tree rows task) (row_at id rows) false

-- to tasks in the order of their numbers come those of a tree, each in its place
pub record AddsTree (rows : List Row) (task : ℕ) (old new : List TaskId) : Type 0 where
  pub ascends : Ascends new
  pub listed : (id : ℕ) → has id new ≡ (has id old || in_tree rows task id)

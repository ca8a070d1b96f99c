-- Which tasks are above others (WS-HumanTask 1.1, 4.7 "Composite tasks").
use Rattle.std.specs.Prelude.{◌≡◌, ℕ, ◌==◌, zero, suc, Bool, false, ◌||◌, List, Option, None, Some}
use Rattle.ht_base.specs.declared.task_id.TaskId.{TaskId}
use Rattle.ht_tree.specs.declared.row.Row.{Row}
use Rattle.ht_tree.specs.Families.{parent_at}
use Rattle.ht_tree.specs.Tables.{TablesOf, task_row}

-- a chain of one or more parents leads from a task to the one that is above it
pub data Above (rows : List Row) (above : ℕ) : ℕ → Type 0 where
  direct : {task entry : ℕ} → parent_at task rows ≡ Some (record { 0 = above }, entry) → Above rows above task
  further : {task between entry : ℕ} → parent_at task rows ≡ Some (record { 0 = between }, entry) → Above rows above between → Above rows above task

-- in a chain of parents that begins with this one, and is at most so long, is the task
abbrev pub leads_to : ℕ → List Row → ℕ → Option (TaskId × ℕ) → Bool
leads_to zero rows task parent = false
leads_to (suc n) rows task None = false
leads_to (suc n) rows task (Some p) = (p.0.0 == task) || leads_to n rows task (parent_at p.0.0 rows)

-- A task is above that of a row. A parent has a lower number than its sub task, so no chain is longer
-- than this number.
abbrev pub is_above : List Row → ℕ → Row → Bool
is_above rows task row = leads_to row.task.0 rows task row.parent

-- each task is still there, with the same parent and of the same model
abbrev pub StillThere : TablesOf → TablesOf → Type 0
StillThere old new = (task : ℕ) (row : Row) → task_row old task ≡ Some row → (after : Row) × (task_row new task ≡ Some after) × (after.parent ≡ row.parent) × (after.model ≡ row.model)

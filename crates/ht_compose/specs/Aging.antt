-- How tasks may change so that nothing more is due of them than before (WS-HumanTask 1.1, 4.9).
use Rattle.std.specs.Prelude.{◌≡◌, ◌⊎◌, ℕ, true, None, Some}
use Rattle.ht_base.specs.declared.moment.Moment.{Moment}
use Rattle.ht_base.specs.Persons.{has}
use Rattle.ht_tree.specs.declared.row.Row.{Row}
use Rattle.ht_base.specs.State.{is_final}
use Rattle.ht_tree.specs.Tables.{TablesOf, task_row}

-- It is the same task, and what was done or has ended stays so: it may wait no longer, but not for another
-- moment, nor be suspended to another.
pub record Ages (old new : Row) : Type 0 where
  pub task : new.task ≡ old.task
  pub model : new.model ≡ old.model
  pub input : new.input ≡ old.input
  pub created : new.created ≡ old.created
  pub started : old.started ≡ true → new.started ≡ true
  pub ended : is_final old.state ≡ true → is_final new.state ≡ true
  pub waits : (new.waits ≡ None) ⊎ (new.waits ≡ old.waits)
  pub until : (new.until ≡ None) ⊎ (new.until ≡ old.until)
  pub taken : (place : ℕ) → has place old.taken ≡ true → has place new.taken ≡ true

-- a task that comes at a moment was created then, waits for nothing and isn't suspended to a moment
abbrev pub IsNewAt : Moment → ℕ → Row → Type 0
IsNewAt at task row = (row.created ≡ at) × (row.waits ≡ None) × (row.until ≡ None) × (row.task.0 ≡ task)

-- at a moment each task that was there ages, and each that wasn't is new
pub record AllAge (at : Moment) (u v : TablesOf) : Type 0 where
  pub there : (task : ℕ) (row : Row) → task_row u task ≡ Some row → (after : Row) × (task_row v task ≡ Some after) × Ages row after
  pub new : (task : ℕ) (row : Row) → task_row v task ≡ Some row → task_row u task ≡ None → IsNewAt at task row

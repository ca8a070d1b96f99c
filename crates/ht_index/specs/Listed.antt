-- A list with room, and where a task stands in it.
use Rattle.std.specs.Prelude.{◌≡◌, ℕ, ◌+◌, ◌≤◌, ◌<◌, List, length, vec_capacity, vec_len}
use Rattle.std.specs.List.{insert, remove}
use Rattle.ht_base.specs.declared.task_id.TaskId.{TaskId}
use Rattle.ht_index.specs.declared.listed.Listed.TheInside.{Inside}
use Rattle.ht_index.specs.Indexes.{Ascends, with_task, without_task}

pub record ListedOf : Type 0 where
  pub tasks : List TaskId
  pub spare : ℕ

abbrev pub listed_in : Inside → ListedOf
listed_in l = record { tasks = l.tasks.items; spare = l.room }

pub record IsRoomy (l : Inside) : Type 0 where
  pub ascends : Ascends l.tasks.items
  pub room : vec_len l.tasks + l.room ≤ vec_capacity l.tasks

-- ---- places

-- the task of this number stands at this place
pub record StandsAt (task : TaskId) (tasks : List TaskId) (place : ℕ) : Type 0 where
  pub within : place < length tasks
  pub put : tasks ≡ with_task task tasks
  pub removed : remove tasks place ≡ without_task task tasks

-- it doesn't stand there, and this is where it would
pub record BelongsAt (task : TaskId) (tasks : List TaskId) (place : ℕ) : Type 0 where
  pub within : place ≤ length tasks
  pub put : insert tasks place task ≡ with_task task tasks
  pub removed : tasks ≡ without_task task tasks

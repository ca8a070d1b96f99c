-- Lists of tasks, one of each key, and the moves that change them.
use Rattle.std.specs.Prelude.{ℕ, ◌==◌, ◌&&◌, not, Bool, List, [], filter, slice_get, if◌then◌else◌}
use Rattle.std.specs.List.{list_any}
use Rattle.std.specs.Option.{option_map_or}
use Rattle.std.specs.Ordering.{nat_cmp}
use Rattle.ht_base.specs.declared.task_id.TaskId.{TaskId}
use Rattle.ht_base.specs.Ordered.{AscendBy, placed_by}
use Rattle.ht_index.specs.declared.moves.Move.{Move}

-- ---- a list

-- by number, none twice
abbrev pub Ascends : List TaskId → Type 0
Ascends tasks = AscendBy (λ a b. nat_cmp a.0 b.0) tasks

-- the task of a number is one of these
abbrev pub has : ℕ → List TaskId → Bool
has number tasks = list_any (λ t. t.0 == number) tasks

-- these and this one, in its place
abbrev pub with_task : TaskId → List TaskId → List TaskId
with_task task tasks = placed_by (λ t. nat_cmp t.0 task.0) task tasks

-- these but for this one
abbrev pub without_task : TaskId → List TaskId → List TaskId
without_task task tasks = filter (λ t. not (t.0 == task.0)) tasks

-- ---- the lists of all keys

pub record IndexOf : Type 0 where
  pub lists : List (List TaskId)
  pub moves : List Move

-- that of a key; behind the last key they are empty
abbrev pub list_of : ℕ → IndexOf → List TaskId
list_of key index = option_map_or (λ tasks. tasks) (slice_get index.lists key) []

-- the list of a key once a task has moved: only that of the move's key changes
abbrev pub moved : ℕ → List TaskId → Move → List TaskId
moved key tasks m = if m.key == key then (if m.comes then with_task m.task tasks else without_task m.task tasks) else tasks

-- a move is of this key and of the task of this number
abbrev pub is_of : ℕ → ℕ → Move → Bool
is_of key number m = (m.key == key) && (m.task.0 == number)

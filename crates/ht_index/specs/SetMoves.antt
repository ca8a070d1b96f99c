-- The sets of all keys, and the moves that they have room for.
use Rattle.std.specs.Prelude.{◌≡◌, ℕ, ◌<◌, true, List, [], slice_get}
use Rattle.std.specs.Option.{option_map_or}
use Rattle.ht_base.specs.declared.task_id.TaskId.{TaskId}
use Rattle.ht_index.specs.declared.moves.Move.{Move}
use Rattle.ht_index.specs.Sets.{TasksOf}

abbrev pub tasks_at : ℕ → List TasksOf → List TaskId
tasks_at key sets = option_map_or (λ s. s.tasks) (slice_get sets key) []

-- behind the last there is room for none
abbrev pub reach_at : ℕ → List TasksOf → ℕ
reach_at key sets = option_map_or (λ s. s.reach) (slice_get sets key) 0

-- if the task comes, there is room for it
abbrev pub HasRoomFor : List TasksOf → Move → Type 0
HasRoomFor sets m = m.comes ≡ true → m.task.0 < reach_at m.key sets

-- How many tasks there are, each whole tree counted from the creation of its top task on.
use Rattle.ht_tree.specs.Rows.{model_in}
use Rattle.std.specs.Option.{option_map_or}
use Rattle.std.specs.Prelude.{ℕ, ◌+◌, List, [], ◌∷◌, Option, Some, None}
use Rattle.ht_base.specs.declared.task_id.TaskId.{TaskId}
use Rattle.ht_models.specs.Model.{ModelOf}
use Rattle.ht_tree.specs.declared.row.Row.{Row}

-- a sub task is counted with its top task
abbrev pub size_under : List ModelOf → Row → Option (TaskId × ℕ) → ℕ
size_under models row None = option_map_or (λ m. m.size) (model_in models row) 0
size_under models row (Some parent) = 0

abbrev pub top_size : List ModelOf → Row → ℕ
top_size models row = size_under models row row.parent

abbrev pub total_size : List ModelOf → List Row → ℕ
total_size models [] = 0
total_size models (row ∷ rows) = top_size models row + total_size models rows

-- Whether a composite task finishes, and the output that it has then (WS-HumanTask 1.1, 4.8).
use Rattle.std.specs.Prelude.{◌≡◌, List, filter_map, Option, None, Some}
use Rattle.ht_base.specs.declared.task_id.TaskId.{TaskId}
use Rattle.ht_base.specs.declared.values.Values.{Values}
use Rattle.ht_compose.specs.Finishes.{HasResults, chosen}
use Rattle.ht_models.specs.Model.{FinishOf, ModelOf}
use Rattle.ht_tree.specs.declared.row.Row.{Row}
use Rattle.ht_tree.specs.Tables.{TablesOf, task_row}

-- no finish is chosen, or its settings are set one after another
abbrev pub Finds : TablesOf → Row → ModelOf → Option Values → Type 0
Finds u row m None = chosen u.rows m row ≡ None
Finds u row m (Some output) = (f : FinishOf) × (chosen u.rows m row ≡ Some f) × HasResults u.rows m row f output

-- the rows of these tasks, of those that are there
abbrev pub rows_of : TablesOf → List TaskId → List Row
rows_of u ids = filter_map (λ id. task_row u id.0) ids

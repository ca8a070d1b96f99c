-- The rows of the tasks, in the order of their numbers from 1.
use Rattle.std.specs.Prelude.{ℕ, ◌-◌, zero, suc, nat_le, List, [], ◌∷◌, ◌++◌, length, Option, None, slice_get, slice_set, if◌then◌else◌}
use Rattle.ht_models.specs.Model.{ModelOf}
use Rattle.ht_tree.specs.declared.row.Row.{Row}

-- the row of a task
abbrev pub row_at : ℕ → List Row → Option Row
row_at zero rows = None
row_at (suc i) rows = slice_get rows i

-- the model of its task, which stands among these
abbrev pub model_in : List ModelOf → Row → Option ModelOf
model_in models row = slice_get models row.model

-- the rows with this one in its task's place, or behind the others where the task is new
abbrev pub put_in : List Row → Row → List Row
put_in rows row = if nat_le row.task.0 (length rows) then slice_set rows (row.task.0 - 1) row else rows ++ row ∷ []

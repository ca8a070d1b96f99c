-- Which sub tasks may still be made, and one that is (WS-HumanTask 1.1, 4.7).
use Rattle.std.specs.Prelude.{◌≡◌, ℕ, false, slice_get, Some}
use Rattle.ht_models.specs.Model.{ModelOf}
use Rattle.ht_entries.specs.SubEntries.{SubEntry}
use Rattle.ht_tree.specs.declared.row.Row.{Row}
use Rattle.ht_base.specs.State.{is_final}
use Rattle.ht_tree.specs.Families.{is_made}
use Rattle.ht_tree.specs.Tables.{TablesOf, model_of, task_row}

-- an entry of the model of a task that hasn't ended, of which no sub task is made
pub record IsToMake (u : TablesOf) (task entry : ℕ) : Type 0 where
  pub row : Row
  pub there : task_row u task ≡ Some row
  pub going_on : is_final row.state ≡ false
  pub model : ModelOf
  pub of_model : model_of u row ≡ Some model
  pub sub : SubEntry
  pub listed : slice_get model.subs entry ≡ Some sub
  pub not_made : is_made task entry u.rows ≡ false

-- the sub task of an entry is there, under this number
abbrev pub IsSubTask : TablesOf → ℕ → ℕ → ℕ → Type 0
IsSubTask u task entry id = (row : Row) × (task_row u id ≡ Some row) × (row.parent ≡ Some (record { 0 = task }, entry))

-- Composite tasks and their sub tasks (WS-HumanTask 1.1, 4.7).
use Rattle.std.specs.Prelude.{◌≡◌, ℕ, ◌+◌, ◌≤◌, ◌==◌, suc, Bool, ◌&&◌, true, false, List, [], ◌∷◌, length, filter, slice_get, Option, None, Some, option_map, IfSome, if◌then◌else◌}
use Rattle.std.specs.List.{list_any}
use Rattle.std.specs.Option.{option_and_then, option_map_or}
use Rattle.ht_base.specs.Places.{place_in}
use Rattle.ht_base.specs.State.{is_final}
use Rattle.ht_base.specs.declared.task_id.TaskId.{TaskId}
use Rattle.ht_models.specs.Model.{ModelOf, names}
use Rattle.ht_entries.specs.SubEntries.{SubEntry}
use Rattle.ht_models.specs.TreeSizes.{entry_size}
use Rattle.ht_tree.specs.declared.row.Row.{Row}
use Rattle.ht_tree.specs.Rows.{model_in, row_at}
use Rattle.ht_tree.specs.Sizes.{total_size}

-- ---- sub tasks

-- the parent of a task, if it is a sub task, and the place of its entry
abbrev pub parent_at : ℕ → List Row → Option (TaskId × ℕ)
parent_at task rows = option_and_then (λ row. row.parent) (row_at task rows)

-- it is a sub task of this task
abbrev pub is_sub_of : ℕ → Row → Bool
is_sub_of task row = option_map_or (λ p. p.0.0 == task) row.parent false

-- it is the one of this entry
abbrev pub is_of_entry : ℕ → ℕ → Row → Bool
is_of_entry task entry row = option_map_or (λ p. (p.0.0 == task) && (p.1 == entry)) row.parent false

-- in the order of their numbers
abbrev pub sub_tasks : ℕ → List Row → List Row
sub_tasks task rows = filter (is_sub_of task) rows

-- an entry is made where a sub task has its place
abbrev pub is_made : ℕ → ℕ → List Row → Bool
is_made task entry rows = list_any (is_of_entry task entry) rows

-- ---- tasks to come: those of the trees of entries that aren't made

-- of the entries of a task, from a place on
abbrev pub to_come_from : List ModelOf → List Row → ℕ → ℕ → List SubEntry → ℕ
to_come_from models rows task place [] = 0
to_come_from models rows task place (entry ∷ entries) = (if is_made task place rows then 0 else entry_size models entry) + to_come_from models rows task (suc place) entries

abbrev pub to_come_of : List ModelOf → List Row → Row → ℕ
to_come_of models rows row = option_map_or (λ m. to_come_from models rows row.task.0 0 m.subs) (model_in models row) 0

-- of these tasks
abbrev pub to_come_in : List ModelOf → List Row → List Row → ℕ
to_come_in models rows [] = 0
to_come_in models rows (row ∷ more) = to_come_of models rows row + to_come_in models rows more

abbrev pub to_come : List ModelOf → List Row → ℕ
to_come models rows = to_come_in models rows rows

-- ---- families are sound

-- the name of the model of the sub task of an entry, by the model of its parent
abbrev pub model_of_entry : Option ModelOf → ℕ → Option (List ℕ)
model_of_entry above entry = option_map (λ e. e.model) (option_and_then (λ m. slice_get m.subs entry) above)

-- a sub task is of the model that its entry of its parent's model says
pub record IsOfEntry (models : List ModelOf) (rows : List Row) (model : Option ModelOf) (parent : TaskId × ℕ) : Type 0 where
  pub above : Row
  pub there : row_at parent.0.0 rows ≡ Some above
  pub named : model_of_entry (model_in models above) parent.1 ≡ option_map (λ m. m.name) model

-- below a task that has ended all have
abbrev pub HaveEndedBelow : List Row → Type 0
HaveEndedBelow rows = (task : ℕ) (row above : Row) (p : TaskId × ℕ) → row_at task rows ≡ Some row → row.parent ≡ Some p → row_at p.0.0 rows ≡ Some above → is_final above.state ≡ true → is_final row.state ≡ true

pub record AreFamilies (models : List ModelOf) (rows : List Row) : Type 0 where
  pub entries : (task : ℕ) (row : Row) → row_at task rows ≡ Some row → IfSome row.parent (IsOfEntry models rows (model_in models row))
  -- an entry is made at most once
  pub made_once : (a b : ℕ) (p : TaskId × ℕ) → parent_at a rows ≡ Some p → parent_at b rows ≡ Some p → a ≡ b
  pub ended_below : HaveEndedBelow rows
  -- every task is counted in the tree of its top task, also one to come
  pub counted : length rows + to_come models rows ≤ total_size models rows

-- ---- a new sub task

-- It is of an entry that isn't made yet, of a task that hasn't ended, and of the model that the entry says.
pub record IsNewSub (models : List ModelOf) (rows : List Row) (model : ℕ) (parent : TaskId × ℕ) : Type 0 where
  pub above : Row
  pub there : row_at parent.0.0 rows ≡ Some above
  pub going_on : is_final above.state ≡ false
  pub of_model : ModelOf
  pub known : model_in models above ≡ Some of_model
  pub entry : SubEntry
  pub listed : slice_get of_model.subs parent.1 ≡ Some entry
  pub named : place_in entry.model (names models) ≡ Some model
  pub not_made : is_made parent.0.0 parent.1 rows ≡ false

-- a new task of the model may come, at the top or below this parent
abbrev pub MayCome : List ModelOf → List Row → ℕ → Option (TaskId × ℕ) → Type 0
MayCome models rows model None = Unit {0}
MayCome models rows model (Some parent) = IsNewSub models rows model parent

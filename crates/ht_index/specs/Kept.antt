-- How the lists of all keys are kept.
use Rattle.std.specs.Prelude.{ℕ, ◌≤◌, ◌==◌, ◌&&◌, Bool, List, [], map, slice_get, if◌then◌else◌}
use Rattle.std.specs.List.{sum_by}
use Rattle.std.specs.Option.{option_map_or}
use Rattle.ht_base.specs.declared.task_id.TaskId.{TaskId}
use Rattle.ht_index.specs.declared.index.Index.TheInside.{Inside}
use Rattle.ht_index.specs.declared.moves.Move.{Move}
use Rattle.ht_index.specs.Indexes.{IndexOf}
use Rattle.ht_index.specs.Listed.{ListedOf}

abbrev pub list_at : ℕ → List ListedOf → List TaskId
list_at key lists = option_map_or (λ l. l.tasks) (slice_get lists key) []

abbrev pub spare_at : ℕ → List ListedOf → ℕ
spare_at key lists = option_map_or (λ l. l.spare) (slice_get lists key) 0

-- a task comes to the list of a key
abbrev pub comes_to : ℕ → Move → Bool
comes_to key m = m.comes && (m.key == key)

-- how many do
abbrev pub coming_by : ℕ → Move → ℕ
coming_by key m = if comes_to key m then 1 else 0

abbrev pub coming : ℕ → List Move → ℕ
coming key moves = sum_by (coming_by key) moves

abbrev pub index_in : Inside → IndexOf
index_in i = record { lists = map (λ l. l.tasks) i.lists.items; moves = i.moves.items }

-- each list has room for those that come
abbrev pub HasRoom : Inside → Type 0
HasRoom i = (key : ℕ) → coming key i.moves.items ≤ spare_at key i.lists.items

-- The last places of tasks, among rows that are put one after another.
use Rattle.std.specs.Prelude.{◌≡◌, ℕ, ◌==◌, ◌≤◌, nat_le, suc, List, [], ◌∷◌, ◌++◌, length, map, slice_get, slice_set, Option, Some, None, option_map, if◌then◌else◌}
use Rattle.std.specs.Option.{option_or}
use Rattle.ht_tree.specs.declared.row.Row.{Row}
use Rattle.ht_tree.specs.Creating.{bare_row}

abbrev pub tasks_of : List Row → List ℕ
tasks_of rows = map (λ r. r.task.0) rows

-- the last place at which a task stands
abbrev pub last_place : ℕ → List ℕ → Option ℕ
last_place task [] = None
last_place task (t ∷ ts) = option_or (option_map suc (last_place task ts)) (if t == task then Some 0 else None)

-- its row
abbrev pub last_of : ℕ → List Row → Option Row
last_of task [] = None
last_of task (row ∷ rows) = option_or (last_of task rows) (if row.task.0 == task then Some row else None)

-- ---- a row that takes the place of the last of its task

abbrev pub set_past : ℕ → List Row → Row → Option ℕ → List Row
set_past mark rows row None = rows ++ row ∷ []
set_past mark rows row (Some place) = if nat_le mark place then slice_set rows place row else rows ++ row ∷ []

-- with this row: in the place of the last of its task that is not before the mark, or behind all
abbrev pub put_past : ℕ → List Row → Row → List Row
put_past mark rows row = set_past mark rows row (last_place row.task.0 (tasks_of rows))

-- a row of the same task, as it was before any of its roles was set
abbrev pub emptied : Row → Row
emptied row = bare_row row.task row.model row.parent row.initiator [] None row.created

-- the only row behind the mark, one of this task, was taken
pub record IsOnly (mark : ℕ) (old new : List Row) (task : ℕ) (row : Row) : Type 0 where
  pub rest : old ≡ new ++ row ∷ []
  pub front : length new ≡ mark
  pub own : row.task.0 ≡ task

-- the last row of a task was taken, and an emptied one is left in its place
pub record IsLent (mark : ℕ) (old new : List Row) (task : ℕ) (row : Row) : Type 0 where
  pub place : ℕ
  pub last : last_place task (tasks_of old) ≡ Some place
  pub behind : mark ≤ place
  pub there : slice_get old place ≡ Some row
  pub left : new ≡ slice_set old place (emptied row)

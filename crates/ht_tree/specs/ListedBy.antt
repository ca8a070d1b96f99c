-- The lists of tasks that are kept beside the rows: the sub tasks of a task, the tasks in which a person
-- has a role, those of them that aren't final, and those that a person owns.
use Rattle.std.specs.Prelude.{◌≡◌, ℕ, ◌==◌, ◌&&◌, ◌||◌, not, Bool, true, false, List, ◌++◌, filter, map, Option, None, Some}
use Rattle.std.specs.List.{AllByRecursion, list_any}
use Rattle.std.specs.Option.{option_map_or}
use Rattle.ht_base.specs.declared.task_id.TaskId.{TaskId}
use Rattle.ht_base.specs.Persons.{has}
use Rattle.ht_base.specs.State.{is_final}
use Rattle.ht_index.specs.declared.moves.Move.{Move}
use Rattle.ht_index.specs.Indexes.{IndexOf, is_of, list_of}
use Rattle.ht_tree.specs.declared.listed_by.ListedBy.{ListedBy}
use Rattle.ht_tree.specs.declared.listed_by.ListedBy.TheVariants as by
use Rattle.ht_tree.specs.declared.row.Row.{Row}
use Rattle.ht_tree.specs.Families.{is_sub_of}
use Rattle.ht_tree.specs.Rows.{row_at}

-- ---- which tasks

-- someone is there, and is this person
abbrev pub is_person : ℕ → Option ℕ → Bool
is_person person someone = option_map_or (λ p. p == person) someone false

-- The person is its initiator, a stakeholder, a potential owner, its actual owner or a business administrator.
abbrev pub has_task_role : ℕ → Row → Bool
has_task_role person row = (row.initiator == person) || (has person row.stakeholders || (has person row.potential_owners || (is_person person row.owner || has person row.administrators)))

-- the same, but for its actual owner
abbrev pub is_in_lists : ℕ → Row → Bool
is_in_lists person row = (row.initiator == person) || (has person row.stakeholders || (has person row.potential_owners || has person row.administrators))

pub record HaveSameLists (row other : Row) : Type 0 where
  pub initiator : row.initiator ≡ other.initiator
  pub stakeholders : row.stakeholders ≡ other.stakeholders
  pub potential_owners : row.potential_owners ≡ other.potential_owners
  pub administrators : row.administrators ≡ other.administrators

abbrev pub is_live_of : ℕ → Row → Bool
is_live_of person row = not (is_final row.state) && has_task_role person row

-- in the order of their numbers
abbrev pub ids_by : (Row → Bool) → List Row → List TaskId
ids_by test rows = map (λ r. r.task) (filter test rows)

abbrev pub sub_ids : ℕ → List Row → List TaskId
sub_ids task rows = ids_by (is_sub_of task) rows

abbrev pub rows_of : ℕ → List Row → List TaskId
rows_of person rows = ids_by (has_task_role person) rows

-- those that aren't final
abbrev pub live_rows_of : ℕ → List Row → List TaskId
live_rows_of person rows = ids_by (is_live_of person) rows

-- those of which the person is the actual owner
abbrev pub owned_by : ℕ → List Row → List TaskId
owned_by person rows = ids_by (λ row. is_person person row.owner) rows

-- ---- how they are kept

-- the row is listed under a key: a task's number, or a person
abbrev pub is_under : ListedBy → ℕ → Row → Bool
is_under by.Parent key row = is_sub_of key row
is_under by.Person key row = has_task_role key row
is_under by.Live key row = is_live_of key row
is_under by.Owner key row = is_person key row.owner

abbrev pub AreInStep : ListedBy → List Row → IndexOf → Type 0
AreInStep kind rows index = (key : ℕ) → list_of key index ≡ ids_by (is_under kind key) rows

-- ---- how they change with rows

-- the row that there may be is listed under a key
abbrev pub stands_under : ListedBy → ℕ → Option Row → Bool
stands_under kind key row = option_map_or (is_under kind key) row false

abbrev pub is_listed : ListedBy → ℕ → ℕ → List Row → Bool
is_listed kind key task rows = stands_under kind key (row_at task rows)

-- These moves lead from the lists of some rows to those of others.
pub record AreMoves (kind : ListedBy) (old new : List Row) (moves : List Move) : Type 0 where
  -- each task is there or isn't, as it moves
  pub right : AllByRecursion (λ m. m.comes ≡ is_listed kind m.key m.task.0 new) moves
  -- a task that doesn't move is listed as before
  pub whole : (key task : ℕ) → list_any (is_of key task) moves ≡ false → is_listed kind key task old ≡ is_listed kind key task new

-- they lead there of these tasks
pub record AreMovesOf (kind : ListedBy) (old new rows : List Row) (moves : List Move) : Type 0 where
  pub right : AllByRecursion (λ m. m.comes ≡ is_listed kind m.key m.task.0 new) moves
  pub whole : (key task : ℕ) → list_any (is_of key task) moves ≡ false → list_any (λ r. r.task.0 == task) rows ≡ true → is_listed kind key task old ≡ is_listed kind key task new

-- where a task was, it is still, below the same parent
abbrev pub KeepsParent : Option Row → Option Row → Type 0
KeepsParent None is = Unit {0}
KeepsParent (Some old) None = ⊥
KeepsParent (Some old) (Some new) = new.parent ≡ old.parent

-- a move is of this key
abbrev pub is_of_key : ℕ → Move → Bool
is_of_key key m = m.key == key

-- Moves of a task were added, by whether it was listed under a key and whether it is.
pub record Adds (task : TaskId) (was is : ℕ → Bool) (old new : List Move) : Type 0 where
  pub news : List Move
  pub more : new ≡ old ++ news
  pub right : AllByRecursion (λ m. (m.task ≡ task) × (m.comes ≡ is m.key)) news
  pub whole : (key : ℕ) → list_any (is_of_key key) news ≡ false → was key ≡ is key

-- Those of some keys were, but for others.
pub record AddsOf (task : TaskId) (comes : Bool) (some others : ℕ → Bool) (old new : List Move) : Type 0 where
  pub news : List Move
  pub more : new ≡ old ++ news
  pub right : AllByRecursion (λ m. (m.task ≡ task) × (m.comes ≡ comes) × (some m.key ≡ true) × (others m.key ≡ false)) news
  pub whole : (key : ℕ) → some key ≡ true → list_any (is_of_key key) news ≡ false → others key ≡ true

-- What the tables hold: models and people, the row of each task, the notifications, the replies that
-- are kept for repeated commands, and the moment of the last record.
use Rattle.std.specs.Prelude.{ℕ, zero, suc, List, [], ◌∷◌, ◌++◌, Option, None, slice_get}
use Rattle.ht_base.specs.Places.{place_in}
use Rattle.ht_due.specs.declared.due.Due.{Due}
use Rattle.ht_index.specs.declared.moves.Move.{Move}
use Rattle.ht_models.specs.Model.{ModelOf, names}
use Rattle.ht_people.specs.Directory.{DirectoryOf}
use Rattle.ht_tree.specs.declared.notice.Notice.{Notice}
use Rattle.ht_tree.specs.declared.row.Row.{Row}
use Rattle.ht_tree.specs.declared.slot.Slot.{Slot}
use Rattle.ht_tree.specs.Rows.{model_in, put_in, row_at}
use Rattle.ht_tree.specs.Slots.{slot_in, slots_with}

pub record TablesOf : Type 0 where
  pub models : List ModelOf
  pub people : DirectoryOf
  pub rows : List Row
  pub notices : List Notice
  pub slots : List Slot
  pub last : ℕ

-- and how many more rows, notifications, slots and dues they take without memory, and with the plan that
-- was prepared last which dues go and come, and how tasks move between the lists of tasks
pub record RoomyTables : Type 0 where
  pub tables : TablesOf
  pub room : ℕ
  pub notice_room : ℕ
  pub slot_room : ℕ
  pub due_room : ℕ
  pub gone : List Due
  pub news : List Due
  pub sub_moves : List Move
  pub person_moves : List Move
  pub live_moves : List Move
  pub owner_moves : List Move

-- no tasks yet
abbrev pub empty_tables : List ModelOf → DirectoryOf → TablesOf
empty_tables models people = record { models = models; people = people; rows = []; notices = []; slots = []; last = 0 }

-- ---- what is asked of them

-- the persons and groups
abbrev pub directory : TablesOf → DirectoryOf
directory t = t.people

-- the row of a task, by its number
abbrev pub task_row : TablesOf → ℕ → Option Row
task_row t task = row_at task t.rows

-- the notification of a number, which counts from 1
abbrev pub notice_at : ℕ → List Notice → Option Notice
notice_at zero notices = None
notice_at (suc i) notices = slice_get notices i

-- the last numbered command of a person's device
abbrev pub device_slot : TablesOf → ℕ → ℕ → Option Slot
device_slot t person device = slot_in person device t.slots

-- the model at a place, of which new tasks are made
abbrev pub model_at : TablesOf → ℕ → Option ModelOf
model_at t place = slice_get t.models place

-- the place of the model with a name
abbrev pub model_named : TablesOf → List ℕ → Option ℕ
model_named t name = place_in name (names t.models)

-- the model of a task
abbrev pub model_of : TablesOf → Row → Option ModelOf
model_of t row = model_in t.models row

abbrev pub potential_owners_of : TablesOf → Row → List ℕ
potential_owners_of t row = row.potential_owners

abbrev pub excluded_owners_of : TablesOf → Row → List ℕ
excluded_owners_of t row = row.excluded_owners

abbrev pub administrators_of : TablesOf → Row → List ℕ
administrators_of t row = row.administrators

abbrev pub stakeholders_of : TablesOf → Row → List ℕ
stakeholders_of t row = row.stakeholders

-- ---- what is changed of them

-- with this row in its task's place, or behind the others where the task is new
abbrev pub with_row : TablesOf → Row → TablesOf
with_row t row = record t { rows = put_in t.rows row }

-- with these rows
abbrev pub with_rows : TablesOf → List Row → TablesOf
with_rows t rows = record t { rows = rows }

-- with this notification behind the others
abbrev pub with_notice : TablesOf → Notice → TablesOf
with_notice t notice = record t { notices = t.notices ++ notice ∷ [] }

-- with this slot as that of its device
abbrev pub with_slot : TablesOf → Slot → TablesOf
with_slot t slot = record t { slots = slots_with t.slots slot }

-- at a later moment
abbrev pub at_moment : TablesOf → ℕ → TablesOf
at_moment t moment = record t { last = moment }

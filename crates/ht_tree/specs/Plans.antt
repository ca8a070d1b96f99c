-- A planned change of the tables: the rows that are put, in order, of which the last of a task counts,
-- the notifications that are added, and the reply that is kept.
use Rattle.std.specs.Prelude.{◌≡◌, ℕ, ◌+◌, ◌-◌, ◌≤◌, ◌<◌, ◌^◌, List, [], ◌∷◌, ◌++◌, length, fold, Option, Some, None, IsTrue, is_some, IfSome}
use Rattle.ht_tree.specs.declared.notice.Notice.{Notice}
use Rattle.ht_tree.specs.declared.plan.Totals.{Totals}
use Rattle.ht_tree.specs.declared.row.Row.{Row}
use Rattle.ht_tree.specs.declared.slot.Slot.{Slot}
use Rattle.ht_tree.specs.declared.listed_by.ListedBy.TheVariants as by
use Rattle.ht_tree.specs.ListedBy.{AreMoves}
use Rattle.ht_tree.specs.RowDues.{changed_dues}
use Rattle.ht_tree.specs.Rows.{put_in, row_at}
use Rattle.ht_tree.specs.Sizes.{top_size, total_size}
use Rattle.ht_tree.specs.Slots.{slots_with}
use Rattle.ht_tree.specs.Soundness.{Fits, IsSound}
use Rattle.ht_tree.specs.Tables.{RoomyTables, TablesOf, at_moment, with_row, with_rows}

-- They note how many tasks there are after them, from the first row on.
pub record ChangesOf : Type 0 where
  pub rows : List Row
  pub notices : List Notice
  pub totals : Option Totals
  pub slot : Option Slot

-- the changes, and those at the last mark, to which the plan can go back
pub record PlanOf : Type 0 where
  pub changes : ChangesOf
  pub marked : ChangesOf

abbrev pub changes_of : List Row → List Notice → Option Totals → Option Slot → ChangesOf
changes_of rows notices totals slot = record { rows = rows; notices = notices; totals = totals; slot = slot }

-- nothing is changed
abbrev pub no_plan : PlanOf
no_plan = record { changes = changes_of [] [] None None; marked = changes_of [] [] None None }

-- with this reply as the one that is kept
abbrev pub keeping : PlanOf → Slot → PlanOf
keeping p slot = record p { changes = record p.changes { slot = Some slot } }

-- with this notification behind the others
abbrev pub notifying : PlanOf → Notice → PlanOf
notifying p notice = record p { changes = record p.changes { notices = (p.changes).notices ++ notice ∷ [] } }

-- ---- after the changes

abbrev pub slots_after : List Slot → Option Slot → List Slot
slots_after slots None = slots
slots_after slots (Some slot) = slots_with slots slot

-- the tables as they would be after the plan
abbrev pub planned : TablesOf → PlanOf → TablesOf
planned t p = record t {
  rows = fold put_in t.rows (p.changes).rows;
  notices = t.notices ++ (p.changes).notices;
  slots = slots_after t.slots (p.changes).slot;
}

-- the tables after the plan is committed at a moment
abbrev pub committed : TablesOf → PlanOf → ℕ → TablesOf
committed t p at = at_moment (planned t p) at

-- ---- what fits

-- the row's number is one of these rows, or the next
abbrev pub IsNext : List Row → Row → Type 0
IsNext rows row = (1 ≤ row.task.0) × (row.task.0 ≤ length rows + 1)

-- a row is of the same model and has the same parent as the one in whose place it comes
abbrev pub KeepsFile : List Row → Row → Type 0
KeepsFile rows row = IfSome (row_at row.task.0 rows) (λ before. (row.parent ≡ before.parent) × (row.model ≡ before.model))

-- the second rows have each task of the first, of the same model and with the same parent
abbrev pub KeepFiles : List Row → List Row → Type 0
KeepFiles old new = (task : ℕ) (before : Row) → row_at task old ≡ Some before → (after : Row) × (row_at task new ≡ Some after) × (after.parent ≡ before.parent) × (after.model ≡ before.model)

-- the new rows follow those that are there without gaps, and each row fits
abbrev pub Follow : TablesOf → List Row → List Row → Type 0
Follow t rows [] = Unit {0}
Follow t rows (row ∷ puts) = IsNext rows row × Fits t row × Follow t (put_in rows row) puts

-- there are as many of these rows as is noted, and as many tasks in the trees of all top tasks
pub record AreTotals (t : TablesOf) (after : List Row) (n : Totals) : Type 0 where
  pub rows : n.rows ≡ length after
  pub size : n.size ≡ total_size t.models after
  pub small : (task : ℕ) (row : Row) → row_at task after ≡ Some row → top_size t.models row < 2 ^ 32

abbrev pub AreCounted : TablesOf → List Row → Option Totals → Type 0
AreCounted t puts None = puts ≡ []
AreCounted t puts (Some n) = AreTotals t (fold put_in t.rows puts) n

-- a plan fits tables: so do its changes, and those at its mark
pub record IsPlanOf (t : TablesOf) (p : PlanOf) : Type 0 where
  pub changes_fit : Follow t t.rows (p.changes).rows
  pub changes_counted : AreCounted t (p.changes).rows (p.changes).totals
  pub marked_fit : Follow t t.rows (p.marked).rows
  pub marked_counted : AreCounted t (p.marked).rows (p.marked).totals
  pub marked_filed : KeepFiles t.rows (fold put_in t.rows (p.marked).rows)
  pub changes_filed : KeepFiles (fold put_in t.rows (p.marked).rows) (fold put_in t.rows (p.changes).rows)

-- a plan that may be carried on: it fits the tables, and as it would leave them they are sound
pub record IsSoundPlan (t : TablesOf) (p : PlanOf) : Type 0 where
  pub fits : IsPlanOf t p
  pub sound : IsSound (planned t p)

-- ---- a step of plans

-- A plan of t goes on by rows: from the planned tables u to the planned tables v, and it still fits.
-- The reply that it keeps stays, and what it can go back to.
pub record Goes (t : TablesOf) (old new : PlanOf) (u v : TablesOf) : Type 0 where
  pub from : planned t old ≡ u
  pub to : planned t new ≡ v
  pub fits : IsPlanOf t new
  pub slot : (new.changes).slot ≡ (old.changes).slot
  pub marked : new.marked ≡ old.marked

-- it goes on by this row, in its task's place or behind the others
abbrev pub GoesByRow : TablesOf → PlanOf → PlanOf → Row → Type 0
GoesByRow t old new row = Goes t old new (planned t old) (with_row (planned t old) row)

-- it goes on by what is made of the rows that there would be
abbrev pub GoesByRows : TablesOf → PlanOf → PlanOf → (List Row → List Row) → Type 0
GoesByRows t old new made = Goes t old new (planned t old) (with_rows (planned t old) (made (planned t old).rows))

-- The plan lends a task's row: whichever row of the task is put next, the tables would be as if it were
-- put behind the plan as it was.
pub record Lends (t : TablesOf) (old new : PlanOf) (task : ℕ) : Type 0 where
  pub fits : IsPlanOf t new
  pub slot : (new.changes).slot ≡ (old.changes).slot
  pub marked : new.marked ≡ old.marked
  pub next : (row : Row) → row.task.0 ≡ task → IsNext (planned t old).rows row → IsNext (planned t new).rows row
  pub file : (row : Row) → row.task.0 ≡ task → KeepsFile (planned t old).rows row → KeepsFile (planned t new).rows row
  pub again : (row : Row) → row.task.0 ≡ task → IsNext (planned t old).rows row → with_row (planned t new) row ≡ with_row (planned t old) row

-- the row takes the place of one with the same parent and of the same model
pub record Replaces (rows : List Row) (row : Row) : Type 0 where
  pub before : Row
  pub there : row_at row.task.0 rows ≡ Some before
  pub parent : row.parent ≡ before.parent
  pub model : row.model ≡ before.model

-- ---- prepared

-- how many rows are new
abbrev pub new_rows : TablesOf → PlanOf → ℕ
new_rows t p = length (planned t p).rows - length t.rows

-- the dues of the changed rows are at hand, as they are and as they would be, with room for the latter
pub record AreDuesPrepared (t : RoomyTables) (p : PlanOf) : Type 0 where
  pub gone : t.gone ≡ changed_dues (t.tables).models (t.tables).rows (p.changes).rows
  pub news : t.news ≡ changed_dues (t.tables).models (planned t.tables p).rows (p.changes).rows
  pub room : length t.news ≤ t.due_room

-- how the lists of tasks change is at hand
pub record AreListsPrepared (t : RoomyTables) (p : PlanOf) : Type 0 where
  pub subs : AreMoves by.Parent (t.tables).rows (planned t.tables p).rows t.sub_moves
  pub persons : AreMoves by.Person (t.tables).rows (planned t.tables p).rows t.person_moves
  pub live : AreMoves by.Live (t.tables).rows (planned t.tables p).rows t.live_moves
  pub owners : AreMoves by.Owner (t.tables).rows (planned t.tables p).rows t.owner_moves

-- The tables have all the memory that the plan's commit takes, and know what it changes of the dues and of
-- the lists of tasks. Crates above hand this on, and look at no part of it.
pub record IsPrepared (t : RoomyTables) (p : PlanOf) : Type 0 where
  pub rows : new_rows t.tables p ≤ t.room
  pub slots : IsTrue (is_some (p.changes).slot) → 1 ≤ t.slot_room
  pub dues : AreDuesPrepared t p
  pub lists : AreListsPrepared t p
  pub notices : length (p.changes).notices ≤ t.notice_room

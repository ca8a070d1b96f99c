-- What a deadline that is taken leaves as it was.
use Rattle.std.specs.Prelude.{◌≡◌, ℕ, length, List, ◌++◌, Some}
use Rattle.ht_tree.specs.declared.notice.Notice.{Notice}
use Rattle.ht_tree.specs.declared.row.Row.{Row}
use Rattle.ht_base.specs.State.{is_final}
use Rattle.ht_tree.specs.Passed.{taken_with}
use Rattle.ht_tree.specs.Tables.{TablesOf, task_row}

-- it is the same task, and has ended where it had; but for its state, who has it and who may, and what was
-- taken, its row is as it was
pub record IsKept (old new : Row) : Type 0 where
  pub task : new.task ≡ old.task
  pub parent : new.parent ≡ old.parent
  pub model : new.model ≡ old.model
  pub input : new.input ≡ old.input
  pub created : new.created ≡ old.created
  pub started : new.started ≡ old.started
  pub ended : is_final new.state ≡ is_final old.state
  pub waits : new.waits ≡ old.waits
  pub until : new.until ≡ old.until
  pub rest : new ≡ record old { state = new.state; owner = new.owner; potential_owners = new.potential_owners; by_group = new.by_group; taken = new.taken }

-- of all tables: the other tasks, and all but the rows and the notifications
pub record LeavesRest (task place : ℕ) (u v : TablesOf) : Type 0 where
  pub old : Row
  pub there : task_row u task ≡ Some old
  pub new : Row
  pub there_after : task_row v task ≡ Some new
  pub kept : IsKept old new
  pub taken : new.taken ≡ taken_with place old.taken
  pub others : (other : ℕ) → (task ≡ other → ⊥) → task_row v other ≡ task_row u other
  pub count : length v.rows ≡ length u.rows
  pub models : v.models ≡ u.models
  pub people : v.people ≡ u.people
  pub slots : v.slots ≡ u.slots
  pub last : v.last ≡ u.last
  pub told : List Notice
  pub notices : v.notices ≡ u.notices ++ told

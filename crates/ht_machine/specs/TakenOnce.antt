-- A deadline is taken once (WS-HumanTask 1.1, 4.9).
use Rattle.std.specs.Prelude.{◌≡◌, ℕ, ◌==◌, Bool, true, false, ◌&&◌, ◌||◌, nat_le, List, [], ◌∷◌, Some}
use Rattle.ht_base.specs.Persons.{has}
use Rattle.ht_due.specs.declared.due.Due.{Due}
use Rattle.ht_tree.specs.declared.row.Row.{Row}
use Rattle.ht_tree.specs.Tables.{TablesOf, task_row}
pub use Rattle.ht_compose.specs.Work.{AreNumbered}

-- the deadline at a place of a task's model was taken
abbrev pub WasTaken : TablesOf → ℕ → ℕ → Type 0
WasTaken t task place = (row : Row) × (task_row t task ≡ Some row) × (has place row.taken ≡ true)

-- the due is this deadline's
abbrev pub is_of_deadline : ℕ → ℕ → Due → Bool
is_of_deadline task place due = nat_le 2 due.kind && ((due.task.0 == task) && (due.place == place))

-- it is among what is taken
abbrev pub is_among : ℕ → ℕ → List Due → Bool
is_among task place [] = false
is_among task place (due ∷ dues) = is_of_deadline task place due || is_among task place dues

-- What follows where a suspended task is resumed (WS-HumanTask 1.1, 4.7 and 4.10): the tasks below it are
-- freed, and each that was is checked.
use Rattle.std.specs.Prelude.{◌≡◌, ℕ, Bool, ◌&&◌, List, [], ◌∷◌, ◌++◌, Some, filter, map, reverse}
use Rattle.ht_base.specs.declared.moment.Moment.{Moment}
use Rattle.ht_compose.specs.Agenda.{Ends}
use Rattle.ht_compose.specs.Downward.{freed, freeing}
use Rattle.ht_compose.specs.Families.{StillThere, is_above}
use Rattle.ht_compose.specs.Items.{Does, Item}
use Rattle.ht_compose.specs.Items.Item.{Check}
use Rattle.ht_tree.specs.declared.row.Row.{Row}
use Rattle.ht_tree.specs.Plans.{Goes, PlanOf, planned}
use Rattle.ht_tree.specs.Soundness.{IsSound, is_suspended}
use Rattle.ht_tree.specs.Tables.{TablesOf, task_row, with_row, with_rows}

abbrev pub is_freed : List Row → ℕ → Row → Bool
is_freed rows task row = is_above rows task row && is_suspended row.state

-- the tasks that are freed below this one, from the greatest number to the least
abbrev pub freed_tasks : ℕ → List Row → List Row
freed_tasks task rows = reverse (filter (is_freed rows task) rows)

-- each of them is checked, and then the task itself, whose number is less than theirs
abbrev pub checks_of : ℕ → List Row → List Item
checks_of task rows = map (λ row. Check row.task.0) (freed_tasks task rows) ++ Check task ∷ []

-- from these tables to those
abbrev pub Frees : Moment → ℕ → TablesOf → TablesOf → Type 0
Frees at task u v = Ends (Does at) (with_rows u (freeing task u.rows)) (checks_of task u.rows) v

-- the plan goes on by it
pub record IsFreed (t : TablesOf) (old new : PlanOf) (at : Moment) (task : ℕ) : Type 0 where
  pub after : TablesOf
  pub frees : Frees at task (planned t old) after
  pub goes : Goes t old new (planned t old) after
  pub sound : IsSound after
  pub there : StillThere (planned t old) after

-- ---- the end of a suspension

-- the task returns to its state before, and then those below it are freed
abbrev pub Resumes : Moment → ℕ → TablesOf → TablesOf → Type 0
Resumes at task u v = (row : Row) × (task_row u task ≡ Some row) × Frees at task (with_row u (freed row)) v

-- the plan goes on by it
pub record IsResumed (t : TablesOf) (old new : PlanOf) (at : Moment) (task : ℕ) : Type 0 where
  pub after : TablesOf
  pub resumes : Resumes at task (planned t old) after
  pub goes : Goes t old new (planned t old) after
  pub sound : IsSound after

-- What is due of the tasks that a plan leaves as they are.
use Rattle.std.specs.Prelude.{◌≡◌, ◌≤◌, ℕ, Bool, true, false, is_some, Option, Some, None}
use Rattle.std.specs.declared.cmp.Ordering.TheVariants.{Less}
use Rattle.ht_due.specs.declared.due.Due.{Due}
use Rattle.ht_due.specs.Dues.{compare_dues, has}
use Rattle.ht_tree.specs.Places.{last_of}
use Rattle.ht_tree.specs.Plans.{PlanOf}
use Rattle.ht_tree.specs.RowDues.{all_dues}
use Rattle.ht_tree.specs.Tables.{TablesOf}

-- a row of the due's task is put
abbrev pub is_changed : PlanOf → Due → Bool
is_changed p due = is_some (last_of due.task.0 (p.changes).rows)

-- it is due of the tables, by a moment, and of a task that stays
pub record IsStaying (t : TablesOf) (p : PlanOf) (by : ℕ) (due : Due) : Type 0 where
  pub there : has due (all_dues t) ≡ true
  pub stays : is_changed p due ≡ false
  pub soon : due.at.0 ≤ by

-- one of these, before which none of them comes; and none where there are none
abbrev pub IsFirstKept : TablesOf → PlanOf → ℕ → Option Due → Type 0
IsFirstKept t p by (Some due) = IsStaying t p by due × ((q : Due) → IsStaying t p by q → compare_dues q due ≡ Less → ⊥)
IsFirstKept t p by None = (q : Due) → IsStaying t p by q → ⊥

-- Where a turn stands on its way along what is due.
use Rattle.std.specs.Prelude.{◌≡◌, ◌⊎◌, ◌≤◌, ℕ, ◌+◌, nat_lt, Bool, true, ◌&&◌, List, length, Option, Some}
use Rattle.ht_due.specs.declared.due.Due.{Due}
use Rattle.ht_due.specs.Dues.{Ascends, has}
use Rattle.ht_machine.specs.Ahead.{IsAhead, in_either}
use Rattle.ht_machine.specs.Turning.{Takes, Takings}
use Rattle.ht_tree.specs.Plans.{Goes, PlanOf, planned}
use Rattle.ht_tree.specs.RowDues.{all_dues, first_due}
use Rattle.ht_tree.specs.Soundness.{IsSound}
use Rattle.ht_tree.specs.Tables.{TablesOf}

-- Of these tables what is due is ahead, and stands in the list that is kept or among the new dues, which
-- are of tasks that are there.
pub record IsOnCourse (kept : List Due) (u : TablesOf) (news : List Due) (passed : Option Due) : Type 0 where
  pub known : (due : Due) → has due (all_dues u) ≡ true → in_either kept news due ≡ true
  pub ahead : (due : Due) → has due (all_dues u) ≡ true → IsAhead passed due
  pub of_tasks : (due : Due) → has due news ≡ true → due.task.0 ≤ length u.rows
  pub in_order : Ascends news

-- a due of a task that the first tables don't have and the second have
abbrev pub is_of_new : TablesOf → TablesOf → Due → Bool
is_of_new u v due = nat_lt (length u.rows) due.task.0 && has due (all_dues v)

-- the plan goes on by one action
pub record IsTaken (t : TablesOf) (old new : PlanOf) (due : Due) : Type 0 where
  pub takes : Takes (planned t old) due (planned t new)
  pub goes : Goes t old new (planned t old) (planned t new)
  pub sound : IsSound (planned t new)

-- by one that is the first that is due by a moment
pub record TakesFirst (t : TablesOf) (old new : PlanOf) (by : ℕ) : Type 0 where
  pub due : Due
  pub first : first_due (planned t old) by ≡ Some due
  pub taken : IsTaken t old new due

-- or a due that isn't so any more is passed
abbrev pub GoesOn : TablesOf → PlanOf → PlanOf → ℕ → ℕ → ℕ → Type 0
GoesOn t old new by before after = ((new ≡ old) × (after ≡ before)) ⊎ (TakesFirst t old new by × (after ≡ before + 1))

-- the plan went on from where the turn began, by as many actions
pub record IsUnderWay (t : TablesOf) (start now : PlanOf) (by taken : ℕ) : Type 0 where
  pub dues : List Due
  pub takings : Takings by (planned t start) dues (planned t now)
  pub goes : Goes t start now (planned t start) (planned t now)
  pub sound : IsSound (planned t now)
  pub count : taken ≡ length dues

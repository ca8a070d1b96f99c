-- What a deadline is taken by: a task as the deadline finds it, its new owners, and its notifications.
use Rattle.std.specs.Prelude.{◌≡◌, ◌++◌, not, List, Option, Some, None, option_map}
use Rattle.ht_escalate.specs.declared.reassigning.Owners.{Owners}
use Rattle.ht_escalate.specs.declared.seen.Seen.{Seen}
use Rattle.ht_escalate.specs.Escalating.{first_reassignment, given_to}
use Rattle.ht_expr.specs.Assignments.{Assignment, is_individual}
use Rattle.ht_value.specs.declared.environment.Env.{Env}
use Rattle.ht_expr.specs.Kinds.{Declared}
use Rattle.ht_models.specs.Kinded.{parts_of}
use Rattle.ht_models.specs.Model.{DeadlineOf, ModelOf}
use Rattle.ht_models.specs.Shown as shown
use Rattle.ht_people.specs.Directory.{DirectoryOf}
use Rattle.ht_tree.specs.declared.notice.Notice.{Notice}
use Rattle.ht_tree.specs.declared.row.Row.{Row}
use Rattle.ht_finding.specs.Assigning.{Sight, potential_owners}
use Rattle.ht_tree.specs.Creating.{seen_in, sees}
use Rattle.ht_tree.specs.Plans.{IsSoundPlan, PlanOf, planned}
use Rattle.ht_tree.specs.Tables as tables
use Rattle.ht_tree.specs.Tables.{TablesOf, directory, task_row}

-- ---- the task

-- the tables as they are, and as they would be after the plan
abbrev pub tables_of : Seen → TablesOf
tables_of seen = seen.tables.now.tables

abbrev pub tables_after : Seen → TablesOf
tables_after seen = planned (tables_of seen) seen.plan.now

abbrev pub people_of : Seen → DirectoryOf
people_of seen = directory (tables_of seen)

abbrev pub row_of : Seen → Row
row_of seen = seen.row.now

abbrev pub model_of : Seen → ModelOf
model_of seen = shown.model_of seen.model.now

-- the parts that its model declares
abbrev pub kinds_of : Seen → Declared
kinds_of seen = parts_of (model_of seen).input (model_of seen).output

-- what conditions and assignments see of it
abbrev pub sight_of : Seen → Sight
sight_of seen = seen_in (model_of seen) (tables_after seen).rows (row_of seen)

abbrev pub env_of : Seen → Env
env_of seen = sees (tables_after seen).rows (row_of seen)

-- the row is the task's after the plan, and the model is the row's
pub record IsSeen (seen : Seen) : Type 0 where
  pub plan : IsSoundPlan (tables_of seen) seen.plan.now
  pub there : task_row (tables_after seen) (row_of seen).task.0 ≡ Some (row_of seen)
  pub model : tables.model_of (tables_of seen) (row_of seen) ≡ Some (model_of seen)

-- ---- what comes of the deadline

-- by a reassignment
abbrev pub owners_by : DirectoryOf → Sight → Row → Assignment → Owners
owners_by d s row a = record { persons = potential_owners d s a row.excluded_owners; by_group = not (is_individual a) }

abbrev pub owners_of : DirectoryOf → Sight → Row → Option Assignment → Option Owners
owners_of d s row a = option_map (owners_by d s row) a

-- to whom a deadline gives the task
abbrev pub new_owners : Seen → DeadlineOf → Option Owners
new_owners seen deadline = owners_of (people_of seen) (sight_of seen) (row_of seen) (first_reassignment (sight_of seen) deadline)

abbrev pub given_all : Row → Option Owners → Row
given_all row None = row
given_all row (Some owners) = given_to row owners.by_group owners.persons

-- a plan with these notifications behind the others
abbrev pub telling : PlanOf → List Notice → PlanOf
telling p more = record p { changes = record p.changes { notices = (p.changes).notices ++ more } }

-- What comes of a deadline that is missed (WS-HumanTask 1.1, 4.9 "Timeouts/deadlines and escalations"): of
-- its escalations those are triggered whose condition is true. All conditions and people assignments see
-- the task as the deadline finds it.
use Rattle.std.specs.Prelude.{◌≡◌, ℕ, Bool, false, not, List, [], ◌∷◌, ◌++◌, filter, filter_map, Option, Some, None, option_map, slice_get, if◌then◌else◌}
use Rattle.ht_base.specs.declared.moment.Moment.{Moment}
use Rattle.ht_base.specs.declared.state.State.{State}
use Rattle.ht_base.specs.declared.state.State.TheVariants.{Ready, Reserved, InProgress, SuspendedReady, SuspendedReserved, SuspendedInProgress}
use Rattle.ht_base.specs.declared.task_id.TaskId.{TaskId}
use Rattle.ht_base.specs.Persons.{has}
use Rattle.ht_expr.specs.Assignments.{Assignment, is_individual}
use Rattle.ht_value.specs.Values.{value}
use Rattle.ht_models.specs.Model.{DeadlineOf, EscalationOf, ModelOf}
use Rattle.ht_people.specs.Directory.{DirectoryOf}
use Rattle.ht_tree.specs.declared.notice.Notice.{Notice}
use Rattle.ht_tree.specs.declared.row.Row.{Row}
use Rattle.ht_finding.specs.Assigning.{Sight, is_true, potential_owners, resolved}
use Rattle.ht_tree.specs.Creating.{seen_in}
pub use Rattle.ht_tree.specs.Passed.{taken_with}
use Rattle.ht_tree.specs.Plans.{Goes, PlanOf, planned}
use Rattle.ht_tree.specs.RowDues.{is_obsolete}
use Rattle.ht_tree.specs.Soundness.{IsSound}
use Rattle.ht_tree.specs.Tables.{TablesOf, directory, model_of, task_row, with_row}

-- ---- which are triggered

abbrev pub is_triggered : Sight → EscalationOf → Bool
is_triggered s e = is_true (value s.kinds s.env e.when)

abbrev pub triggered : Sight → List EscalationOf → List EscalationOf
triggered s es = filter (is_triggered s) es

-- ---- who is told

-- whom the assignment finds is told, also where that is nobody
abbrev pub notice_of : DirectoryOf → Sight → TaskId → List ℕ → Moment → EscalationOf → Option Notice
notice_of d s task name at e = option_map (λ a. record { task = task; deadline = name; escalation = e.name; moment = at; recipients = resolved d s a }) e.notify

-- of an escalation that is triggered
abbrev pub notice_if_triggered : DirectoryOf → Sight → TaskId → List ℕ → Moment → EscalationOf → Option Notice
notice_if_triggered d s task name at e = if is_triggered s e then notice_of d s task name at e else None

abbrev pub notices_of : DirectoryOf → Sight → TaskId → DeadlineOf → Moment → List Notice
notices_of d s task deadline at = filter_map (notice_of d s task deadline.name at) (triggered s deadline.escalations)

-- ---- who is given the task

-- the first reassignment counts: whom it finds, without the excluded owners
abbrev pub first_reassignment : Sight → DeadlineOf → Option Assignment
first_reassignment s deadline = slice_get (filter_map (λ e. e.reassign) (triggered s deadline.escalations)) 0

-- the task is open to them, or would be but for its suspension
abbrev pub state_then : State → State
state_then Reserved = Ready
state_then InProgress = Ready
state_then SuspendedReserved = SuspendedReady
state_then SuspendedInProgress = SuspendedReady
state_then state = state

-- where there are any
abbrev pub given_to : Row → Bool → List ℕ → Row
given_to row by_group [] = row
given_to row by_group (p ∷ ps) = record row { state = state_then row.state; owner = None; potential_owners = p ∷ ps; by_group = by_group }

abbrev pub reassigned_by : DirectoryOf → Sight → Row → Option Assignment → Row
reassigned_by d s row None = row
reassigned_by d s row (Some a) = given_to row (not (is_individual a)) (potential_owners d s a row.excluded_owners)

abbrev pub reassigned : DirectoryOf → Sight → DeadlineOf → Row → Row
reassigned d s deadline row = reassigned_by d s row (first_reassignment s deadline)

-- ---- the deadline is taken

-- its place is among those that were taken, which ascend
abbrev pub taken_row : TablesOf → Row → ModelOf → DeadlineOf → ℕ → Row
taken_row u row m deadline place = record (reassigned (directory u) (seen_in m u.rows row) deadline row) { taken = taken_with place row.taken }

abbrev pub with_notices : TablesOf → List Notice → TablesOf
with_notices u more = record u { notices = u.notices ++ more }

-- of the deadline at a place of the task's model, at the moment at which it is due
abbrev pub TakesDeadline : Moment → ℕ → ℕ → TablesOf → TablesOf → Type 0
TakesDeadline at task place u v =
    (row : Row) × (m : ModelOf) × (d : DeadlineOf)
    × (task_row u task ≡ Some row) × (model_of u row ≡ Some m) × (slice_get m.deadlines place ≡ Some d)
    × (v ≡ with_notices (with_row u (taken_row u row m d place)) (notices_of (directory u) (seen_in m u.rows row) row.task d at))

-- ---- when one may be taken

-- it is there, isn't taken yet, and isn't obsolete
pub record IsOpen (u : TablesOf) (task place : ℕ) : Type 0 where
  pub row : Row
  pub there : task_row u task ≡ Some row
  pub model : ModelOf
  pub of_model : model_of u row ≡ Some model
  pub deadline : DeadlineOf
  pub listed : slice_get model.deadlines place ≡ Some deadline
  pub not_taken : has place row.taken ≡ false
  pub not_obsolete : is_obsolete deadline.kind row ≡ false

-- the plan goes on by it
pub record IsEscalated (t : TablesOf) (old new : PlanOf) (at : Moment) (task place : ℕ) : Type 0 where
  pub after : TablesOf
  pub takes : TakesDeadline at task place (planned t old) after
  pub goes : Goes t old new (planned t old) after
  pub sound : IsSound after

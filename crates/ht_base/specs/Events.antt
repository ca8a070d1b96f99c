-- Commands and events: which operation a command asks for, and which events are valid.
use Rattle.std.specs.Prelude.{◌≡◌, ◌≤◌, ◌==◌, ℕ, nat_le, nat_lt, ◌+◌, Bool, true, false, List, length, IfSome, IsTrue}
use Rattle.std.specs.List.{list_all}
use Rattle.ht_base.specs.declared.event.Command.{Command}
use Rattle.ht_base.specs.declared.event.Command.TheVariants.{Create, Claim, Start, Stop, Release, Delegate, Forward, Nominate, Activate, SetRole, SetPriority, Suspend, SuspendUntil, Resume, SetOutput, Complete, Fail, Skip, Exit, Error, AddComment, InstantiateSubTask}
use Rattle.ht_base.specs.declared.end.End.{End}
use Rattle.ht_base.specs.declared.end.End.TheVariants.{After, At}
use Rattle.ht_base.specs.declared.event.Event.{Event}
use Rattle.ht_base.specs.declared.event.Event.TheVariants.{Ask, Read, Turn}
use Rattle.ht_base.specs.declared.limits.TheConstants.{LAST_DEVICE, LONGEST_PERIOD, LONGEST_TEXT, LOWEST_PRIORITY, MOST_LISTED, MOST_NAMES, MOST_PARTS}
use Rattle.ht_base.specs.declared.operation.Op.{Op}
use Rattle.ht_base.specs.declared.operation.Op.TheVariants as op
use Rattle.ht_base.specs.declared.query.Query.{Query}
use Rattle.ht_base.specs.declared.query.Query.TheVariants as query
use Rattle.ht_base.specs.declared.retry.Retry.{Retry}
use Rattle.ht_base.specs.declared.role.Role.{Role}
use Rattle.ht_base.specs.declared.role.Role.TheVariants as role
use Rattle.ht_base.specs.declared.scalar.Scalar.{Scalar}
use Rattle.ht_base.specs.declared.scalar.Scalar.TheVariants as scalar
use Rattle.ht_base.specs.declared.task_id.TaskId.{TaskId}
use Rattle.ht_base.specs.Moment.{last_moment}
use Rattle.ht_base.specs.Places.{IsRepeated}

abbrev pub op_of : Command → Op
op_of (Create model input activate_at) = op.Create
op_of Claim = op.Claim
op_of Start = op.Start
op_of Stop = op.Stop
op_of Release = op.Release
op_of (Delegate person) = op.Delegate
op_of (Forward persons) = op.Forward
op_of (Nominate persons) = op.Nominate
op_of Activate = op.Activate
op_of (SetRole role persons) = op.SetRole
op_of (SetPriority priority) = op.SetPriority
op_of Suspend = op.Suspend
op_of (SuspendUntil end) = op.SuspendUntil
op_of Resume = op.Resume
op_of (SetOutput output) = op.SetOutput
op_of (Complete output) = op.Complete
op_of (Fail fault) = op.Fail
op_of Skip = op.Skip
op_of Exit = op.Exit
op_of Error = op.Error
op_of (AddComment text) = op.AddComment
op_of (InstantiateSubTask sub) = op.InstantiateSubTask

-- the operation may name the task of this number: 0, so none, exactly for a create
abbrev pub suits : ℕ → Op → Bool
suits task op.Create = task == 0
suits task o = nat_le 1 task

abbrev pub IsTaskOf : Command → TaskId → Type 0
IsTaskOf command task = IsTrue (suits task.0 (op_of command))

-- ---- what a command may give

-- a text that is given has at most as many bytes
abbrev pub is_short : ℕ → List ℕ × Scalar → Bool
is_short most (name, scalar.Text text) = nat_lt (length text) (most + 1)
is_short most _ = true

pub record AreGiven (parts : List (List ℕ × Scalar)) : Type 0 where
  pub few : length parts ≤ MOST_PARTS
  pub short : list_all (is_short LONGEST_TEXT) parts ≡ true

pub record AreNames (names : List (List ℕ)) : Type 0 where
  pub few : length names ≤ MOST_NAMES
  pub distinct : (place : ℕ) → IsRepeated names place → ⊥

-- a moment, or a period that a text can give
abbrev pub IsEnd : End → Type 0
IsEnd (At m) = m.0 ≤ last_moment
IsEnd (After period) = period ≤ LONGEST_PERIOD

abbrev pub IsCommand : Command → Type 0
IsCommand (Create model input activate_at) = AreGiven input × IfSome activate_at (λ m. m.0 ≤ last_moment)
IsCommand (Forward persons) = AreNames persons × 1 ≤ length persons
IsCommand (Nominate persons) = AreNames persons × 1 ≤ length persons
IsCommand (SetRole role persons) = AreNames persons
IsCommand (SetPriority priority) = priority ≤ LOWEST_PRIORITY
IsCommand (SuspendUntil end) = IsEnd end
IsCommand (SetOutput output) = AreGiven output × 1 ≤ length output
IsCommand (Complete output) = AreGiven output
IsCommand (AddComment text) = (1 ≤ length text) × (length text ≤ LONGEST_TEXT)
IsCommand _ = Unit {0}

-- ---- events

-- the devices of a person are numbered from 0 to the last, and the commands of a device from 1 on
abbrev pub IsRetry : Retry → Type 0
IsRetry r = (r.device ≤ LAST_DEVICE) × (1 ≤ r.number)

-- lists go by the roles that a person has in a task
abbrev pub is_of_task : Role → Bool
is_of_task role.Operator = false
is_of_task _ = true

abbrev pub AreCounted : ℕ → Type 0
AreCounted count = (1 ≤ count) × (count ≤ MOST_LISTED)

abbrev pub IsQuery : Query → Type 0
IsQuery (query.Sheet task) = 1 ≤ task.0
IsQuery (query.Tasks role which from count) = IfSome role (λ r. IsTrue (is_of_task r)) × AreCounted count
IsQuery (query.Notices from count) = AreCounted count

-- Its moment is at most the last there is, its number is one of a device, just a create names no task,
-- and what it gives is in its limits.
abbrev pub IsValid : Event → Type 0
IsValid (Turn at) = at.0 ≤ last_moment
IsValid (Ask at caller retry task command) = (at.0 ≤ last_moment) × IfSome retry IsRetry × IsTaskOf command task × IsCommand command
IsValid (Read caller asked) = IsQuery asked

-- What an operation changes of a task's state and of its owner (WS-HumanTask 1.1, 4.10 "Human task
-- behavior and state transitions"; narrowed).
use Rattle.std.specs.Prelude.{List, [], ◌∷◌, Option, Some, None, unwrap_or, if◌then◌else◌}
use Rattle.ht_base.specs.declared.operation.Op.{Op}
use Rattle.ht_base.specs.declared.operation.Op.TheVariants as op
use Rattle.ht_base.specs.declared.state.State.{State}
use Rattle.ht_base.specs.declared.state.State.TheVariants as state
use Rattle.ht_base.specs.declared.state.StateSet.{StateSet}
use Rattle.ht_base.specs.State.{contains_state}
use Rattle.ht_rules.specs.declared.changes.After.{After}
use Rattle.ht_rules.specs.declared.changes.After.TheVariants.{To, Same}
use Rattle.ht_rules.specs.declared.changes.After.TheVariants as after
use Rattle.ht_rules.specs.declared.changes.Change.{Change}
use Rattle.ht_rules.specs.declared.changes.OwnerAfter.{OwnerAfter}
use Rattle.ht_rules.specs.declared.changes.OwnerAfter.TheVariants.{Kept, Cleared, Caller, Named}
use Rattle.ht_rules.specs.declared.changes.OwnerAfter.TheVariants as owner
use Rattle.ht_rules.specs.declared.changes.Step.{Step}
use Rattle.ht_rules.specs.States.{created, ready, reserved, in_progress, reserved_or_in_progress, opened, created_or_opened, suspended_ready, suspended_reserved, suspended_in_progress, live, every_state}

-- from each of these states
abbrev from : StateSet → After → OwnerAfter → Step
from states a o = record { 0 = states; 1 = a; 2 = o }

abbrev pub changes : Op → List Step
changes op.Claim = from ready (To state.Reserved) Caller ∷ []
changes op.Start = from ready (To state.InProgress) Caller ∷ from reserved (To state.InProgress) Kept ∷ []
changes op.Stop = from in_progress (To state.Reserved) Kept ∷ []
changes op.Release = from reserved_or_in_progress (To state.Ready) Cleared ∷ []
changes op.Delegate = from opened (To state.Reserved) Named ∷ []
changes op.Forward = from opened (To state.Ready) Cleared ∷ []
changes op.Suspend = from ready (To state.SuspendedReady) Kept ∷ from reserved (To state.SuspendedReserved) Kept ∷ from in_progress (To state.SuspendedInProgress) Kept ∷ []
changes op.SuspendUntil = from ready (To state.SuspendedReady) Kept ∷ from reserved (To state.SuspendedReserved) Kept ∷ from in_progress (To state.SuspendedInProgress) Kept ∷ []
changes op.Resume = from suspended_ready (To state.Ready) Kept ∷ from suspended_reserved (To state.Reserved) Kept ∷ from suspended_in_progress (To state.InProgress) Kept ∷ []
changes op.Complete = from in_progress (To state.Completed) Cleared ∷ []
changes op.Fail = from in_progress (To state.Failed) Cleared ∷ []
changes op.Skip = from created_or_opened (To state.Obsolete) Cleared ∷ []
changes op.Exit = from live (To state.Exited) Cleared ∷ []
changes op.Error = from live (To state.Error) Cleared ∷ []
changes op.Activate = from created after.ByPeople owner.ByPeople ∷ []
changes op.Nominate = from created after.ByPeople owner.ByPeople ∷ []
changes op.SetOutput = from in_progress Same Kept ∷ []
changes op.InstantiateSubTask = from in_progress Same Kept ∷ []
changes op.SetPriority = from live Same Kept ∷ []
changes op.SetRole = from live Same Kept ∷ []
changes op.AddComment = from every_state Same Kept ∷ []
changes op.Get = from every_state Same Kept ∷ []
-- a create has no task to change
changes op.Create = []

-- the first of the changes that is made from this state
abbrev pub change_from : State → List Step → Option Change
change_from state [] = None
change_from state (step ∷ steps) = if contains_state step.0 state then Some (record { after = step.1; owner = step.2 }) else change_from state steps

abbrev pub next : State → Op → Option Change
next state op = change_from state (changes op)

-- what it changes, and nothing where nobody may do it
abbrev pub changing : State → Op → Change
changing state op = unwrap_or (next state op) (record { after = Same; owner = Kept })

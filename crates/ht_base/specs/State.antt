-- The states of a task by name, and sets of them.
use Rattle.std.specs.Prelude.{ℕ, List, [], ◌∷◌, Bool, true, false, codes}
use Rattle.ht_base.specs.declared.state.State.{State}
use Rattle.ht_base.specs.declared.state.State.TheVariants.{Created, Ready, Reserved, InProgress, SuspendedReady, SuspendedReserved, SuspendedInProgress, Completed, Failed, Error, Exited, Obsolete}
use Rattle.ht_base.specs.declared.state.StateSet.{StateSet}

abbrev pub state_name : State → List ℕ
state_name Created = codes "Created"
state_name Ready = codes "Ready"
state_name Reserved = codes "Reserved"
state_name InProgress = codes "InProgress"
state_name SuspendedReady = codes "SuspendedReady"
state_name SuspendedReserved = codes "SuspendedReserved"
state_name SuspendedInProgress = codes "SuspendedInProgress"
state_name Completed = codes "Completed"
state_name Failed = codes "Failed"
state_name Error = codes "Error"
state_name Exited = codes "Exited"
state_name Obsolete = codes "Obsolete"

-- every state, in the order in which states are listed
abbrev pub all_states : List State
all_states = Created ∷ Ready ∷ Reserved ∷ InProgress ∷ SuspendedReady ∷ SuspendedReserved ∷ SuspendedInProgress ∷ Completed ∷ Failed ∷ Error ∷ Exited ∷ Obsolete ∷ []

-- a task has ended well
abbrev pub is_completed : State → Bool
is_completed Completed = true
is_completed _ = false

-- it has ended, in whichever way
abbrev pub is_final : State → Bool
is_final Completed = true
is_final Failed = true
is_final Error = true
is_final Exited = true
is_final Obsolete = true
is_final _ = false

abbrev pub contains_state : StateSet → State → Bool
contains_state s Created = s.created
contains_state s Ready = s.ready
contains_state s Reserved = s.reserved
contains_state s InProgress = s.in_progress
contains_state s SuspendedReady = s.suspended_ready
contains_state s SuspendedReserved = s.suspended_reserved
contains_state s SuspendedInProgress = s.suspended_in_progress
contains_state s Completed = s.completed
contains_state s Failed = s.failed
contains_state s Error = s.error
contains_state s Exited = s.exited
contains_state s Obsolete = s.obsolete

abbrev pub with_state : StateSet → State → StateSet
with_state s Created = record s { created = true }
with_state s Ready = record s { ready = true }
with_state s Reserved = record s { reserved = true }
with_state s InProgress = record s { in_progress = true }
with_state s SuspendedReady = record s { suspended_ready = true }
with_state s SuspendedReserved = record s { suspended_reserved = true }
with_state s SuspendedInProgress = record s { suspended_in_progress = true }
with_state s Completed = record s { completed = true }
with_state s Failed = record s { failed = true }
with_state s Error = record s { error = true }
with_state s Exited = record s { exited = true }
with_state s Obsolete = record s { obsolete = true }

abbrev pub no_states : StateSet
no_states = record {
  created = false;
  ready = false;
  reserved = false;
  in_progress = false;
  suspended_ready = false;
  suspended_reserved = false;
  suspended_in_progress = false;
  completed = false;
  failed = false;
  error = false;
  exited = false;
  obsolete = false;
}

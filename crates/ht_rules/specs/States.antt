-- States of a task that are named together (WS-HumanTask 1.1, 4.10).
use Rattle.std.specs.Prelude.{[], ◌∷◌}
use Rattle.ht_base.specs.declared.state.State.TheVariants.{Created, Ready, Reserved, InProgress, SuspendedReady, SuspendedReserved, SuspendedInProgress}
use Rattle.ht_base.specs.declared.state.StateSet.{StateSet}
use Rattle.ht_base.specs.State.{all_states}
use Rattle.ht_rules.specs.Sets.{states_of}

abbrev pub created : StateSet
created = states_of (Created ∷ [])

abbrev pub ready : StateSet
ready = states_of (Ready ∷ [])

abbrev pub reserved : StateSet
reserved = states_of (Reserved ∷ [])

abbrev pub in_progress : StateSet
in_progress = states_of (InProgress ∷ [])

abbrev pub reserved_or_in_progress : StateSet
reserved_or_in_progress = states_of (Reserved ∷ InProgress ∷ [])

abbrev pub opened : StateSet
opened = states_of (Ready ∷ Reserved ∷ InProgress ∷ [])

abbrev pub created_or_opened : StateSet
created_or_opened = states_of (Created ∷ Ready ∷ Reserved ∷ InProgress ∷ [])

abbrev pub suspended_ready : StateSet
suspended_ready = states_of (SuspendedReady ∷ [])

abbrev pub suspended_reserved : StateSet
suspended_reserved = states_of (SuspendedReserved ∷ [])

abbrev pub suspended_in_progress : StateSet
suspended_in_progress = states_of (SuspendedInProgress ∷ [])

abbrev pub owned_suspended : StateSet
owned_suspended = states_of (SuspendedReserved ∷ SuspendedInProgress ∷ [])

abbrev pub suspended : StateSet
suspended = states_of (SuspendedReady ∷ SuspendedReserved ∷ SuspendedInProgress ∷ [])

-- the states in which a task has an actual owner
abbrev pub owned : StateSet
owned = states_of (Reserved ∷ InProgress ∷ SuspendedReserved ∷ SuspendedInProgress ∷ [])

-- every state that is not final
abbrev pub live : StateSet
live = states_of (Created ∷ Ready ∷ Reserved ∷ InProgress ∷ SuspendedReady ∷ SuspendedReserved ∷ SuspendedInProgress ∷ [])

abbrev pub every_state : StateSet
every_state = states_of all_states

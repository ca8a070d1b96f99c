-- Worked examples of the two tables. A wrong reading of one fails the check.
use Rattle.std.specs.Prelude.{◌≡◌, not, refl, [], ◌∷◌, Some, None}
use Rattle.ht_base.specs.declared.operation.Op.TheVariants.{Claim, Start, Suspend, Resume, Skip, SetPriority, Exit, Get, Create}
use Rattle.ht_base.specs.declared.role.Role.TheVariants.{Initiator, Stakeholder, PotentialOwner, ActualOwner, Administrator, Operator}
use Rattle.ht_base.specs.declared.state.State.{State}
use Rattle.ht_base.specs.declared.state.State.TheVariants.{Created, Ready, Reserved, InProgress, SuspendedReady, SuspendedReserved, SuspendedInProgress, Completed, Failed, Error, Exited, Obsolete}
use Rattle.ht_base.specs.State.{contains_state, is_final}
use Rattle.ht_rules.specs.declared.changes.After.TheVariants.{To, Same}
use Rattle.ht_rules.specs.declared.changes.OwnerAfter.TheVariants.{Kept, Cleared, Caller}
use Rattle.ht_rules.specs.declared.judging.Verdict.TheVariants.{Yes, NeedsRole, WrongState}
use Rattle.ht_rules.specs.Changes.{next}
use Rattle.ht_rules.specs.Judging.{verdict}
use Rattle.ht_rules.specs.Sets.{roles_of, states_of}
use Rattle.ht_rules.specs.States.{live}

-- ---- who may

-- two of a ready task's potential owners may claim it, but not one after the other
a_first_claim : verdict Claim Ready (roles_of (PotentialOwner ∷ [])) ≡ Yes
a_first_claim = refl

a_second_claim : verdict Claim Reserved (roles_of (PotentialOwner ∷ [])) ≡ WrongState (states_of (Ready ∷ []))
a_second_claim = refl

-- who has no role is told so whatever the state is, and the initiator has none that claims
a_claim_of_the_initiator : verdict Claim Reserved (roles_of (Initiator ∷ [])) ≡ NeedsRole (roles_of (PotentialOwner ∷ []))
a_claim_of_the_initiator = refl

-- all roles that may start are told, and not those of the caller alone
a_start_of_an_administrator : verdict Start Ready (roles_of (Administrator ∷ [])) ≡ NeedsRole (roles_of (PotentialOwner ∷ ActualOwner ∷ []))
a_start_of_an_administrator = refl

-- and of the states only those in which the caller may
a_start_of_the_owner : verdict Start InProgress (roles_of (ActualOwner ∷ [])) ≡ WrongState (states_of (Reserved ∷ []))
a_start_of_the_owner = refl

a_start_of_an_owner_by_two_roles : verdict Start InProgress (roles_of (PotentialOwner ∷ ActualOwner ∷ [])) ≡ WrongState (states_of (Ready ∷ Reserved ∷ []))
a_start_of_an_owner_by_two_roles = refl

-- an operator has no role in a task
an_operator_sees_none : verdict Get Ready (roles_of (Operator ∷ [])) ≡ NeedsRole (roles_of (Initiator ∷ Stakeholder ∷ PotentialOwner ∷ ActualOwner ∷ Administrator ∷ []))
an_operator_sees_none = refl

a_final_task_is_shown : verdict Get Obsolete (roles_of (Initiator ∷ [])) ≡ Yes
a_final_task_is_shown = refl

an_exit_of_a_final_task : verdict Exit Completed (roles_of (Operator ∷ [])) ≡ WrongState (states_of (Created ∷ Ready ∷ Reserved ∷ InProgress ∷ SuspendedReady ∷ SuspendedReserved ∷ SuspendedInProgress ∷ []))
an_exit_of_a_final_task = refl

-- stakeholders have the rights of administrators
a_priority_of_a_stakeholder : verdict SetPriority SuspendedReady (roles_of (Stakeholder ∷ [])) ≡ Yes
a_priority_of_a_stakeholder = refl

a_priority_of_the_owner : verdict SetPriority Created (roles_of (ActualOwner ∷ [])) ≡ WrongState (states_of (Reserved ∷ InProgress ∷ SuspendedReserved ∷ SuspendedInProgress ∷ []))
a_priority_of_the_owner = refl

a_suspended_task_is_not_skipped : verdict Skip SuspendedReady (roles_of (Initiator ∷ [])) ≡ WrongState (states_of (Created ∷ Ready ∷ Reserved ∷ InProgress ∷ []))
a_suspended_task_is_not_skipped = refl

a_create : verdict Create Ready (roles_of (Initiator ∷ [])) ≡ NeedsRole (roles_of [])
a_create = refl

-- ---- what changes

a_ready_task_is_started : next Ready Start ≡ Some (record { after = To InProgress; owner = Caller })
a_ready_task_is_started = refl

a_reserved_task_is_started : next Reserved Start ≡ Some (record { after = To InProgress; owner = Kept })
a_reserved_task_is_started = refl

a_suspended_task_is_resumed : next SuspendedReserved Resume ≡ Some (record { after = To Reserved; owner = Kept })
a_suspended_task_is_resumed = refl

a_suspended_task_is_suspended : next SuspendedReady Suspend ≡ None
a_suspended_task_is_suspended = refl

a_final_task_is_skipped : next Completed Skip ≡ None
a_final_task_is_skipped = refl

a_created_task_is_skipped : next Created Skip ≡ Some (record { after = To Obsolete; owner = Cleared })
a_created_task_is_skipped = refl

a_completed_task_is_shown : next Completed Get ≡ Some (record { after = Same; owner = Kept })
a_completed_task_is_shown = refl

-- ---- sets of states

-- a task that hasn't ended is in a live state
live_until_the_end : (state : State) → contains_state live state ≡ not (is_final state)
live_until_the_end Created = refl
live_until_the_end Ready = refl
live_until_the_end Reserved = refl
live_until_the_end InProgress = refl
live_until_the_end SuspendedReady = refl
live_until_the_end SuspendedReserved = refl
live_until_the_end SuspendedInProgress = refl
live_until_the_end Completed = refl
live_until_the_end Failed = refl
live_until_the_end Error = refl
live_until_the_end Exited = refl
live_until_the_end Obsolete = refl

-- Who may do what in which state (WS-HumanTask 1.1, 7.1.5 "Operation Authorizations"; narrowed).
use Rattle.std.specs.Prelude.{List, [], ◌∷◌}
use Rattle.ht_base.specs.declared.operation.Op.{Op}
use Rattle.ht_base.specs.declared.operation.Op.TheVariants as op
use Rattle.ht_base.specs.declared.role.Role.TheVariants.{Initiator, Stakeholder, PotentialOwner, ActualOwner, Administrator, Operator}
use Rattle.ht_base.specs.declared.role.Roles.{Roles}
use Rattle.ht_base.specs.declared.state.StateSet.{StateSet}
use Rattle.ht_rules.specs.declared.allowances.Allowance.{Allowance}
use Rattle.ht_rules.specs.Sets.{roles_of}
use Rattle.ht_rules.specs.States.{created, ready, reserved, in_progress, reserved_or_in_progress, opened, created_or_opened, suspended_ready, owned_suspended, suspended, owned, live, every_state}

-- ---- roles

abbrev potential_owner : Roles
potential_owner = roles_of (PotentialOwner ∷ [])

abbrev actual_owner : Roles
actual_owner = roles_of (ActualOwner ∷ [])

-- stakeholders have the rights of business administrators
abbrev admin : Roles
admin = roles_of (Stakeholder ∷ Administrator ∷ [])

abbrev actual_owner_or_admin : Roles
actual_owner_or_admin = roles_of (Stakeholder ∷ ActualOwner ∷ Administrator ∷ [])

abbrev initiator_actual_owner_or_admin : Roles
initiator_actual_owner_or_admin = roles_of (Initiator ∷ Stakeholder ∷ ActualOwner ∷ Administrator ∷ [])

abbrev any_task_role : Roles
any_task_role = roles_of (Initiator ∷ Stakeholder ∷ PotentialOwner ∷ ActualOwner ∷ Administrator ∷ [])

abbrev operator : Roles
operator = roles_of (Operator ∷ [])

-- ---- the table

-- each of these roles may do it in each of these states
abbrev may : Roles → StateSet → Allowance
may roles states = record { 0 = roles; 1 = states }

abbrev pub allowances : Op → List Allowance
allowances op.Claim = may potential_owner ready ∷ []
allowances op.Start = may potential_owner ready ∷ may actual_owner reserved ∷ []
allowances op.Stop = may actual_owner_or_admin in_progress ∷ []
allowances op.Release = may actual_owner_or_admin reserved_or_in_progress ∷ []
allowances op.Delegate = may potential_owner ready ∷ may actual_owner reserved_or_in_progress ∷ may admin opened ∷ []
allowances op.Forward = may potential_owner ready ∷ may actual_owner reserved_or_in_progress ∷ may admin opened ∷ []
allowances op.Suspend = may potential_owner ready ∷ may actual_owner reserved_or_in_progress ∷ may admin opened ∷ []
allowances op.SuspendUntil = may potential_owner ready ∷ may actual_owner reserved_or_in_progress ∷ may admin opened ∷ []
allowances op.Resume = may potential_owner suspended_ready ∷ may actual_owner owned_suspended ∷ may admin suspended ∷ []
allowances op.Complete = may actual_owner in_progress ∷ []
allowances op.Fail = may actual_owner in_progress ∷ []
allowances op.SetOutput = may actual_owner in_progress ∷ []
allowances op.InstantiateSubTask = may actual_owner in_progress ∷ []
allowances op.Skip = may initiator_actual_owner_or_admin created_or_opened ∷ []
allowances op.SetPriority = may actual_owner owned ∷ may admin live ∷ []
allowances op.Activate = may admin created ∷ []
allowances op.Nominate = may admin created ∷ []
allowances op.SetRole = may admin live ∷ []
allowances op.AddComment = may any_task_role every_state ∷ []
allowances op.Get = may any_task_role every_state ∷ []
allowances op.Exit = may operator live ∷ []
allowances op.Error = may operator live ∷ []
-- a create is nobody's alone
allowances op.Create = []

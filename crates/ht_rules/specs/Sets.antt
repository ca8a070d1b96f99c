-- Sets of roles and of states.
use Rattle.std.specs.Prelude.{Bool, true, ◌&&◌, ◌||◌, List, fold}
use Rattle.ht_base.specs.declared.role.Role.{Role}
use Rattle.ht_base.specs.declared.role.Role.TheVariants.{Initiator, Stakeholder, PotentialOwner, ActualOwner, Administrator, Operator}
use Rattle.ht_base.specs.declared.role.Roles.{Roles}
use Rattle.ht_base.specs.declared.state.State.{State}
use Rattle.ht_base.specs.declared.state.State.TheVariants.{Created, Ready, Reserved, InProgress, SuspendedReady, SuspendedReserved, SuspendedInProgress, Completed, Failed, Error, Exited, Obsolete}
use Rattle.ht_base.specs.declared.state.StateSet.{StateSet}
use Rattle.ht_base.specs.Role.{no_roles, with_role}
use Rattle.ht_base.specs.State.{no_states, with_state}

abbrev pub roles_of : List Role → Roles
roles_of roles = fold with_role no_roles roles

abbrev pub states_of : List State → StateSet
states_of states = fold with_state no_states states

-- the roles of which something holds
abbrev pub roles_where : (Role → Bool) → Roles
roles_where test = record {
  initiator = test Initiator;
  stakeholder = test Stakeholder;
  potential_owner = test PotentialOwner;
  actual_owner = test ActualOwner;
  administrator = test Administrator;
  operator = test Operator;
}

-- the states of which something holds
abbrev pub states_where : (State → Bool) → StateSet
states_where test = record {
  created = test Created;
  ready = test Ready;
  reserved = test Reserved;
  in_progress = test InProgress;
  suspended_ready = test SuspendedReady;
  suspended_reserved = test SuspendedReserved;
  suspended_in_progress = test SuspendedInProgress;
  completed = test Completed;
  failed = test Failed;
  error = test Error;
  exited = test Exited;
  obsolete = test Obsolete;
}

abbrev pub every_role : Roles
every_role = roles_where (λ role. true)

-- the roles of both sets
abbrev pub join_roles : Roles → Roles → Roles
join_roles a b = record {
  initiator = a.initiator || b.initiator;
  stakeholder = a.stakeholder || b.stakeholder;
  potential_owner = a.potential_owner || b.potential_owner;
  actual_owner = a.actual_owner || b.actual_owner;
  administrator = a.administrator || b.administrator;
  operator = a.operator || b.operator;
}

-- a role is in both sets
abbrev pub share_role : Roles → Roles → Bool
share_role a b =
    (a.initiator && b.initiator)
    || ((a.stakeholder && b.stakeholder)
    || ((a.potential_owner && b.potential_owner)
    || ((a.actual_owner && b.actual_owner)
    || ((a.administrator && b.administrator) || (a.operator && b.operator)))))

-- the states of both sets
abbrev pub join_states : StateSet → StateSet → StateSet
join_states a b = record {
  created = a.created || b.created;
  ready = a.ready || b.ready;
  reserved = a.reserved || b.reserved;
  in_progress = a.in_progress || b.in_progress;
  suspended_ready = a.suspended_ready || b.suspended_ready;
  suspended_reserved = a.suspended_reserved || b.suspended_reserved;
  suspended_in_progress = a.suspended_in_progress || b.suspended_in_progress;
  completed = a.completed || b.completed;
  failed = a.failed || b.failed;
  error = a.error || b.error;
  exited = a.exited || b.exited;
  obsolete = a.obsolete || b.obsolete;
}

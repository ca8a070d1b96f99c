-- Whether an operation may be done, by the table of who may do what in which state.
use Rattle.std.specs.Prelude.{Bool, ◌&&◌, List, if◌then◌else◌}
use Rattle.std.specs.List.{list_any}
use Rattle.ht_base.specs.declared.operation.Op.{Op}
use Rattle.ht_base.specs.declared.role.Role.{Role}
use Rattle.ht_base.specs.declared.role.Roles.{Roles}
use Rattle.ht_base.specs.declared.state.State.{State}
use Rattle.ht_base.specs.declared.state.StateSet.{StateSet}
use Rattle.ht_base.specs.Role.{contains_role}
use Rattle.ht_base.specs.State.{contains_state}
use Rattle.ht_rules.specs.declared.allowances.Allowance.{Allowance}
use Rattle.ht_rules.specs.declared.judging.Verdict.{Verdict}
use Rattle.ht_rules.specs.declared.judging.Verdict.TheVariants.{Yes, NeedsRole, WrongState}
use Rattle.ht_rules.specs.Allowances.{allowances}
use Rattle.ht_rules.specs.Sets.{roles_where, share_role, states_where}

-- this role may do it in some state
abbrev pub is_named : List Allowance → Role → Bool
is_named rows role = list_any (λ a. contains_role a.0 role) rows

-- one of these roles may do it in some state
abbrev pub has_role : Roles → List Allowance → Bool
has_role roles rows = list_any (λ a. share_role a.0 roles) rows

-- one of these roles may do it in this state
abbrev pub is_allowed : List Allowance → Roles → State → Bool
is_allowed rows roles state = list_any (λ a. share_role a.0 roles && contains_state a.1 state) rows

-- all roles that may do it in some state
abbrev pub needed : Op → Roles
needed op = roles_where (is_named (allowances op))

-- all states in which one of these roles may do it
abbrev pub allowed : Op → Roles → StateSet
allowed op roles = states_where (is_allowed (allowances op) roles)

-- first for want of a role, then for the state
abbrev pub verdict : Op → State → Roles → Verdict
verdict op state roles =
    if has_role roles (allowances op)
    then (if is_allowed (allowances op) roles state then Yes else WrongState (allowed op roles))
    else NeedsRole (needed op)

-- The roles by name, and sets of them.
use Rattle.std.specs.Prelude.{ℕ, List, [], ◌∷◌, Bool, true, false, codes}
use Rattle.ht_base.specs.declared.role.Role.{Role}
use Rattle.ht_base.specs.declared.role.Role.TheVariants.{Initiator, Stakeholder, PotentialOwner, ActualOwner, Administrator, Operator}
use Rattle.ht_base.specs.declared.role.Roles.{Roles}

abbrev pub role_name : Role → List ℕ
role_name Initiator = codes "initiator"
role_name Stakeholder = codes "stakeholder"
role_name PotentialOwner = codes "potentialOwner"
role_name ActualOwner = codes "actualOwner"
role_name Administrator = codes "administrator"
role_name Operator = codes "operator"

-- every role, in the order in which roles are listed
abbrev pub all_roles : List Role
all_roles = Initiator ∷ Stakeholder ∷ PotentialOwner ∷ ActualOwner ∷ Administrator ∷ Operator ∷ []

abbrev pub contains_role : Roles → Role → Bool
contains_role s Initiator = s.initiator
contains_role s Stakeholder = s.stakeholder
contains_role s PotentialOwner = s.potential_owner
contains_role s ActualOwner = s.actual_owner
contains_role s Administrator = s.administrator
contains_role s Operator = s.operator

abbrev pub with_role : Roles → Role → Roles
with_role s Initiator = record s { initiator = true }
with_role s Stakeholder = record s { stakeholder = true }
with_role s PotentialOwner = record s { potential_owner = true }
with_role s ActualOwner = record s { actual_owner = true }
with_role s Administrator = record s { administrator = true }
with_role s Operator = record s { operator = true }

abbrev pub no_roles : Roles
no_roles = record {
  initiator = false;
  stakeholder = false;
  potential_owner = false;
  actual_owner = false;
  administrator = false;
  operator = false;
}

-- The roles of a person in a task (WS-HumanTask 1.1, 3.1).
use Rattle.std.specs.Prelude.{ℕ, ◌==◌, Bool, false, slice_get}
use Rattle.std.specs.Option.{option_map_or}
use Rattle.ht_base.specs.declared.role.Roles.{Roles}
use Rattle.ht_base.specs.Persons.{has}
use Rattle.ht_people.specs.Directory.{DirectoryOf}
use Rattle.ht_tree.specs.declared.row.Row.{Row}
use Rattle.ht_tree.specs.Tables.{TablesOf, administrators_of, directory, potential_owners_of, stakeholders_of}

-- the person operates the server
abbrev pub is_operator : DirectoryOf → ℕ → Bool
is_operator d person = option_map_or (λ p. p.operator) (slice_get d.persons person) false

abbrev pub roles_in : TablesOf → Row → ℕ → Roles
roles_in t row person = record {
  initiator = row.initiator == person;
  stakeholder = has person (stakeholders_of t row);
  potential_owner = has person (potential_owners_of t row);
  actual_owner = option_map_or (λ owner. owner == person) row.owner false;
  administrator = has person (administrators_of t row);
  operator = is_operator (directory t) person;
}

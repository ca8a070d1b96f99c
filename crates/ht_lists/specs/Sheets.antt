-- The sheet of a task: its row, with persons and the model by name and parts as they are given (WS-HumanTask 1.1, 7.1.1
-- "getTaskDetails").
use Rattle.std.specs.Prelude.{ℕ, List, [], map, option_map, unwrap_or}
use Rattle.ht_base.specs.declared.sheet.Sheet.{Sheet}
use Rattle.ht_tree.specs.declared.row.Row.{Row}
use Rattle.ht_tree.specs.Families.{sub_tasks}
use Rattle.ht_tree.specs.Tables.{TablesOf, administrators_of, directory, excluded_owners_of, model_of, potential_owners_of, stakeholders_of}
use Rattle.ht_lists.specs.declared.sheets.RoleNames.{RoleNames}
use Rattle.ht_lists.specs.Naming.{comments_of, name_of, name_or_none, names_of, parts_of}

abbrev pub model_name : TablesOf → Row → List ℕ
model_name t row = unwrap_or (option_map (λ m. m.name) (model_of t row)) []

-- the names of the persons of each role
abbrev pub role_names : TablesOf → Row → RoleNames
role_names t row = record {
  administrators = names_of (directory t) (administrators_of t row);
  excluded_owners = names_of (directory t) (excluded_owners_of t row);
  potential_owners = names_of (directory t) (potential_owners_of t row);
  stakeholders = names_of (directory t) (stakeholders_of t row);
}

abbrev pub sheet_of : TablesOf → Row → Sheet
sheet_of t row = record {
  administrators = (role_names t row).administrators;
  by_group = row.by_group;
  comments = comments_of (directory t) row.comments;
  created = row.created;
  excluded_owners = (role_names t row).excluded_owners;
  fault = row.fault;
  initiator = name_of (directory t) row.initiator;
  input = parts_of (directory t) row.input;
  last_owner = name_or_none (directory t) row.last_owner;
  model = model_name t row;
  output = parts_of (directory t) row.output;
  owner = name_or_none (directory t) row.owner;
  parent = option_map (λ p. p.0) row.parent;
  potential_owners = (role_names t row).potential_owners;
  priority = row.priority;
  stakeholders = (role_names t row).stakeholders;
  started = row.started;
  state = row.state;
  subs = map (λ r. r.task) (sub_tasks row.task.0 t.rows);
  task = row.task;
  until = row.until;
  waits = row.waits;
}

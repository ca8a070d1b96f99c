-- A new task (WS-HumanTask 1.1, 4.10): its roles by its model's assignments, and nothing done yet.
use Rattle.ht_base.specs.declared.limits.TheConstants.{LOWEST_PRIORITY, MIDDLE_PRIORITY, MOST_TASKS}
use Rattle.ht_models.specs.TreeSizes.{size_at}
use Rattle.std.specs.Prelude.{ℕ, ◌+◌, min, nat_lt, pos, negsuc, Bool, false, not, List, [], length, map, Option, Some, None, IfSome}
use Rattle.std.specs.Option.{option_and_then, option_map_or}
use Rattle.ht_base.specs.declared.moment.Moment.{Moment}
use Rattle.ht_base.specs.declared.state.State.TheVariants.{Created}
use Rattle.ht_base.specs.declared.task_id.TaskId.{TaskId}
use Rattle.ht_base.specs.declared.values.Values.{Values}
use Rattle.ht_expr.specs.Assignments.{Assignment, is_individual}
use Rattle.ht_value.specs.declared.environment.Env.{Env}
use Rattle.ht_expr.specs.declared.kinds.Side.TheVariants.{Input}
use Rattle.ht_value.specs.Values.{Outcome, a_number, value}
use Rattle.ht_models.specs.Kinded.{parts_of}
use Rattle.ht_models.specs.Model.{ModelOf}
use Rattle.ht_people.specs.Directory.{DirectoryOf}
use Rattle.ht_tree.specs.declared.row.Row.{Row}
use Rattle.ht_finding.specs.Assigning.{Sight, potential_owners, resolved, sight}
use Rattle.ht_tree.specs.Families.{sub_tasks}
use Rattle.ht_tree.specs.Soundness.{AreHeld}
use Rattle.ht_tree.specs.Sizes.{total_size}
use Rattle.ht_tree.specs.Tables.{TablesOf, administrators_of, directory, stakeholders_of, task_row}

-- the parent's row, of a sub task
abbrev pub parent_row : TablesOf → Option (TaskId × ℕ) → Option Row
parent_row t parent = option_and_then (λ p. task_row t p.0.0) parent

-- the persons of a role: by the model's assignment, or where it has none the parent's
abbrev pub role_or : DirectoryOf → Sight → Option Assignment → List ℕ → List ℕ
role_or d s None inherited = inherited
role_or d s (Some a) inherited = resolved d s a

-- the number that an expression gives, moved between 0 and the lowest priority
abbrev pub level_of : Outcome → ℕ
level_of (a_number (pos n)) = min n LOWEST_PRIORITY
level_of (a_number (negsuc n)) = 0
level_of _ = MIDDLE_PRIORITY

-- the row of a new task before any of its roles is set, as assignments see it
abbrev pub bare_row : TaskId → ℕ → Option (TaskId × ℕ) → ℕ → Values → Option Moment → Moment → Row
bare_row task model parent initiator input waits at = record {
  task = task;
  parent = parent;
  model = model;
  state = Created;
  owner = None;
  last_owner = None;
  initiator = initiator;
  potential_owners = [];
  excluded_owners = [];
  administrators = [];
  stakeholders = [];
  by_group = false;
  started = false;
  priority = MIDDLE_PRIORITY;
  input = input;
  output = [];
  created = at;
  waits = waits;
  until = None;
  fault = None;
  taken = [];
  comments = [];
}

-- what expressions see of a new row, which has no sub tasks
abbrev pub env_of : Row → Env
env_of row = record { input = row.input; output = row.output; priority = pos row.priority; initiator = row.initiator; subs = [] }

-- what the expression of a new task's priority sees: what is given to the task, and by whom
abbrev pub first_env : Values → ℕ → Env
first_env input initiator = record { input = input; output = []; priority = pos MIDDLE_PRIORITY; initiator = initiator; subs = [] }

-- what assignments of a model see in an environment
abbrev pub sight_by : ModelOf → Env → Sight
sight_by m env = sight (parts_of m.input m.output) env

abbrev pub seen : ModelOf → Row → Sight
seen m row = sight_by m (env_of row)

-- what they see of a row among these rows: its sub tasks too, in the order of their numbers
abbrev pub sees : List Row → Row → Env
sees rows row = record (env_of row) { subs = map (λ s. (s.state, s.output)) (sub_tasks row.task.0 rows) }

abbrev pub seen_in : ModelOf → List Row → Row → Sight
seen_in m rows row = sight_by m (sees rows row)

-- with the priority that its model says
abbrev pub with_priority : ModelOf → Row → Row
with_priority m row = record row { priority = level_of (value (parts_of m.input m.output) (env_of row) m.priority) }

-- with the persons of each role, of whom its assignments see none
abbrev pub with_roles : TablesOf → ModelOf → Option Row → Row → Row
with_roles t m above row = record row {
  potential_owners = potential_owners (directory t) (seen m row) m.potential_owners (resolved (directory t) (seen m row) m.excluded_owners);
  excluded_owners = resolved (directory t) (seen m row) m.excluded_owners;
  administrators = role_or (directory t) (seen m row) m.administrators (option_map_or (administrators_of t) above []);
  stakeholders = role_or (directory t) (seen m row) m.stakeholders (option_map_or (stakeholders_of t) above []);
  by_group = not (is_individual m.potential_owners);
}

-- the row of a new task, before it is activated: first its priority, and then its roles
abbrev pub new_row : TablesOf → ModelOf → ℕ → Option (TaskId × ℕ) → ℕ → Values → Option Moment → Moment → Row
new_row t m model parent initiator input waits at =
    with_roles t m (parent_row t parent) (with_priority m (bare_row (record { 0 = length t.rows + 1 }) model parent initiator input waits at))

-- what is given to a new task is of parts that its model declares
abbrev pub IsInput : ℕ → Option ModelOf → Values → Type 0
IsInput persons model input = IfSome model (λ m. AreHeld (parts_of m.input m.output) persons Input input)

-- with the tree of a new task of this model there would be too many
abbrev pub is_full : TablesOf → ℕ → Bool
is_full t model = nat_lt MOST_TASKS (total_size t.models t.rows + size_at t.models model)

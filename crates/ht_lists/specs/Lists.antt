-- A person's tasks (WS-HumanTask 1.1, 7.1.2 "getMyTasks"), and the notifications that a person has got.
use Rattle.std.specs.Prelude.{ℕ, ◌+◌, Bool, true, ◌&&◌, ◌||◌, not, List, [], ◌∷◌, drop, filter, length, map, take, Option, Some, None, if◌then◌else◌}
use Rattle.std.specs.declared.cmp.Ordering.{Ordering}
use Rattle.ht_base.specs.declared.role.Role.{Role}
use Rattle.ht_base.specs.declared.role.Roles.{Roles}
use Rattle.ht_base.specs.declared.state.State.{State}
use Rattle.ht_base.specs.Persons.{has}
use Rattle.ht_base.specs.Role.{contains_role}
use Rattle.ht_base.specs.State.{contains_state, is_final}
use Rattle.ht_rules.specs.Sets.{states_of}
use Rattle.ht_base.specs.declared.query.Which.{Which}
use Rattle.ht_base.specs.declared.query.Which.TheVariants as which
use Rattle.ht_base.specs.declared.notice_page.NoticePage.{NoticePage}
use Rattle.ht_base.specs.declared.notice_page.NoticeRow.{NoticeRow}
use Rattle.ht_base.specs.declared.page.Page.{Page}
use Rattle.ht_base.specs.declared.page.PageRow.{PageRow}
use Rattle.ht_lists.specs.Keys.{compare_keys, key_of}
use Rattle.ht_lists.specs.Naming.{name_or_none}
use Rattle.ht_lists.specs.Sheets.{model_name}
use Rattle.ht_lists.specs.Sorted.{sorted_by}
use Rattle.ht_tree.specs.declared.notice.Notice.{Notice}
use Rattle.ht_tree.specs.declared.row.Row.{Row}
use Rattle.ht_tree.specs.Roles.{roles_in}
use Rattle.ht_tree.specs.Tables.{TablesOf, directory}

-- ---- which tasks

-- initiator, stakeholder, potential owner, actual owner or administrator
abbrev pub has_task_role : Roles → Bool
has_task_role r = r.initiator || (r.stakeholder || (r.potential_owner || (r.actual_owner || r.administrator)))

-- with a role, or with any role in a task
abbrev pub is_in_role : Option Role → Roles → Bool
is_in_role None roles = has_task_role roles
is_in_role (Some role) roles = contains_role roles role

-- live are those that aren't final
abbrev pub is_shown : Which → State → Bool
is_shown which.Live state = not (is_final state)
is_shown which.All state = true
is_shown (which.Only one) state = contains_state (states_of (one ∷ [])) state

abbrev pub is_listed : TablesOf → ℕ → Option Role → Which → Row → Bool
is_listed t person role which row = is_shown which row.state && is_in_role role (roles_in t row person)

-- ---- in which order

-- by priority, of which 0 is the highest, then by the moment of creation, then by number: as their keys
abbrev pub compare_rows : Row → Row → Ordering
compare_rows a b = compare_keys (key_of a) (key_of b)

abbrev pub tasks_of : TablesOf → ℕ → Option Role → Which → List Row
tasks_of t person role which = sorted_by compare_rows (filter (is_listed t person role which) t.rows)

-- ---- a part of the list

abbrev pub part_of : {A : Type 0} → ℕ → ℕ → List A → List A
part_of from count xs = take count (drop from xs)

abbrev pub page_row : TablesOf → Row → PageRow
page_row t row = record {
  created = row.created;
  model = model_name t row;
  owner = name_or_none (directory t) row.owner;
  priority = row.priority;
  state = row.state;
  task = row.task;
}

abbrev pub page_of : TablesOf → ℕ → Option Role → Which → ℕ → ℕ → Page
page_of t person role which from count = record {
  rows = map (page_row t) (part_of from count (tasks_of t person role which));
  total = length (tasks_of t person role which);
}

-- ---- notifications, by number

abbrev pub notice_row : ℕ → Notice → NoticeRow
notice_row number n = record { deadline = n.deadline; escalation = n.escalation; moment = n.moment; number = number; task = n.task }

-- those of which the person is a recipient, the first of which has this number
abbrev pub told_from : ℕ → ℕ → List Notice → List NoticeRow
told_from number person [] = []
told_from number person (n ∷ ns) =
    if has person n.recipients then notice_row number n ∷ told_from (number + 1) person ns
    else told_from (number + 1) person ns

abbrev pub notices_of : TablesOf → ℕ → List NoticeRow
notices_of t person = told_from 1 person t.notices

abbrev pub notice_page_of : TablesOf → ℕ → ℕ → ℕ → NoticePage
notice_page_of t person from count = record {
  rows = part_of from count (notices_of t person);
  total = length (notices_of t person);
}

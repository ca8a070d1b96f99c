-- Worked examples of the definitions. A wrong reading of one fails the check.
use Rattle.std.specs.Prelude.{◌≡◌, refl, ℕ, List, [], ◌∷◌, Some, None, codes, true, false}
use Rattle.ht_base.specs.declared.moment.Moment.{Moment}
use Rattle.ht_base.specs.declared.state.State.TheVariants.{Completed, Created, InProgress, Ready}
use Rattle.ht_base.specs.declared.value.Value.TheVariants as values
use Rattle.ht_expr.specs.declared.operator.Operator.TheVariants as operator
use Rattle.ht_expr.specs.Trees.{Tree, binary, choice, everybody, group, integer, negative, nobody, priority, truth, user, when}
use Rattle.ht_models.specs.BuiltIn.{plain_model}
use Rattle.ht_entries.specs.declared.deadlines.DeadlineKind.TheVariants.{Completion}
use Rattle.ht_models.specs.Model.{DeadlineOf, ModelOf}
use Rattle.ht_tree.specs.declared.row.Row.{Row}
use Rattle.ht_finding.specs.Examples.{office}
use Rattle.ht_tree.specs.Creating.{new_row, sees, with_priority}
use Rattle.ht_tree.specs.Roles.{roles_in}
use Rattle.ht_tree.specs.Rows.{row_at}
use Rattle.ht_tree.specs.Sizes.{total_size}
use Rattle.ht_tree.specs.declared.notice.Notice.{Notice}
use Rattle.ht_tree.specs.declared.slot.Kept.TheVariants as kept
use Rattle.ht_tree.specs.declared.slot.Slot.{Slot}
use Rattle.ht_base.specs.declared.operation.Op.TheVariants as op
use Rattle.ht_tree.specs.Plans.{ChangesOf, planned}
use Rattle.ht_tree.specs.Soundness.{has_escalation}
use Rattle.ht_tree.specs.Tables.{TablesOf, empty_tables, model_at, model_named, notice_at, task_row}

-- ---- a new task

abbrev pub shut : ModelOf
shut = record (plain_model (codes "shut")) {
  potential_owners = user (codes "anna");
  excluded_owners = user (codes "anna");
  administrators = Some (user (codes "cora"));
}

abbrev pub unit : ModelOf
unit = record shut { name = codes "unit"; potential_owners = group (codes "clerks"); excluded_owners = nobody }

abbrev at : ℕ → Moment
at n = record { 0 = n }

abbrev nothing_yet : TablesOf
nothing_yet = empty_tables (shut ∷ unit ∷ []) office

abbrev first : Row
first = new_row nothing_yet shut 0 None 3 [] None (at 1000)

-- ---- priorities

abbrev level : Tree → ℕ
level tree = (with_priority (record (plain_model (codes "m")) { priority = tree }) first).priority

the_middle : level (integer 5) ≡ 5
the_middle = refl

above_the_end : level (integer 20) ≡ 10
above_the_end = refl

below_the_end : level (negative (integer 1)) ≡ 0
below_the_end = refl

by_itself : level (binary operator.Minus priority (integer 2)) ≡ 3
by_itself = refl

by_a_choice : level (choice (truth false) (integer 1) (integer 7)) ≡ 7
by_a_choice = refl

-- roles see the priority that the task gets
abbrev urgent : ModelOf
urgent = record (plain_model (codes "urgent")) {
  priority = integer 12;
  potential_owners = when (binary operator.Equal priority (integer 10)) (user (codes "anna")) everybody;
  excluded_owners = when (binary operator.Less priority (integer 10)) everybody nobody;
}

by_its_priority : (new_row nothing_yet urgent 0 None 3 [] None (at 1000)).potential_owners ≡ 0 ∷ []
by_its_priority = refl

-- ---- its roles

nobody_may_own_it : first.potential_owners ≡ []
nobody_may_own_it = refl

its_administrator : first.administrators ≡ 2 ∷ []
its_administrator = refl

-- a model that gives no stakeholders has none where there is no parent
its_stakeholders : first.stakeholders ≡ []
its_stakeholders = refl

named_one_by_one : first.by_group ≡ false
named_one_by_one = refl

-- a sub task takes what its model doesn't give from its parent
abbrev watched : Row
watched = record first { stakeholders = 4 ∷ [] }

from_the_parent : (new_row (record nothing_yet { rows = watched ∷ [] }) unit 1 (Some (record { 0 = 1 }, 0)) 0 [] None (at 1000)).stakeholders ≡ 4 ∷ []
from_the_parent = refl

by_a_group : (new_row nothing_yet unit 1 None 0 [] None (at 1000)).by_group ≡ true
by_a_group = refl

-- ---- what is seen of sub tasks

-- a sub task of this parent, of this entry: two of the first task, and one of its sub task
abbrev below : ℕ → ℕ → ℕ → Row
below parent entry task = record first { task = record { 0 = task }; parent = Some (record { 0 = parent }, entry) }

abbrev family : List Row
family = first ∷ record (below 1 1 2) { state = InProgress } ∷ below 2 0 3 ∷ record (below 1 0 4) { state = Completed; output = (codes "vote", values.Truth true) ∷ [] } ∷ []

-- in the order of their numbers, and not of their entries; what is below a sub task isn't among them
two_sub_tasks : (sees family first).subs ≡ (InProgress, []) ∷ (Completed, (codes "vote", values.Truth true) ∷ []) ∷ []
two_sub_tasks = refl

one_sub_task : (sees family (below 1 1 2)).subs ≡ (Created, []) ∷ []
one_sub_task = refl

no_sub_tasks : (sees family (below 2 0 3)).subs ≡ []
no_sub_tasks = refl

-- ---- rows put into others

abbrev second : Row
second = record first { task = record { 0 = 2 } }

abbrev changed : Row
changed = record first { state = Ready }

abbrev puts : List Row → ChangesOf
puts rows = record { rows = rows; notices = []; totals = None; slot = None }

-- the last row that is put of a task counts
a_plan : (planned (record nothing_yet { rows = first ∷ [] }) (record { changes = puts (second ∷ changed ∷ []); marked = puts [] })).rows ≡ changed ∷ second ∷ []
a_plan = refl

abbrev told : Notice
told = record { task = record { 0 = 1 }; deadline = codes "one"; escalation = codes "tell"; moment = at 11000; recipients = 2 ∷ [] }

-- notifications stand behind those that are there
a_notice : (planned (record nothing_yet { notices = record told { recipients = 3 ∷ [] } ∷ [] }) (record { changes = record (puts []) { notices = told ∷ [] }; marked = puts [] })).notices ≡ record told { recipients = 3 ∷ [] } ∷ told ∷ []
a_notice = refl

the_first_notice : notice_at 1 (told ∷ []) ≡ Some told
the_first_notice = refl

no_notice_zero : notice_at 0 (told ∷ []) ≡ None
no_notice_zero = refl

-- a model with one deadline, of one escalation
abbrev telling : DeadlineOf
telling = record { name = codes "one"; kind = Completion; period = Some 10000; at = None; part = None; escalations = record { name = codes "tell"; when = truth true; notify = Some everybody; reassign = None } ∷ [] }

its_escalation : has_escalation (telling ∷ []) told ≡ true
its_escalation = refl

another_escalation : has_escalation (telling ∷ []) (record told { escalation = codes "move" }) ≡ false
another_escalation = refl

another_deadline : has_escalation (telling ∷ []) (record told { deadline = codes "two" }) ≡ false
another_deadline = refl

abbrev slot : ℕ → ℕ → ℕ → Slot
slot person device number = record { person = person; device = device; number = number; op = op.Claim; task = record { 0 = 1 }; kept = kept.Done (record { 0 = 1 }) Ready None }

-- a kept reply stands in the place of its person and device, and else in their order
a_slot : (planned (record nothing_yet { slots = slot 0 3 1 ∷ slot 1 2 7 ∷ slot 2 0 4 ∷ [] }) (record { changes = record (puts []) { slot = Some (slot 1 2 8) }; marked = puts [] })).slots ≡ slot 0 3 1 ∷ slot 1 2 8 ∷ slot 2 0 4 ∷ []
a_slot = refl

a_new_slot : (planned (record nothing_yet { slots = slot 0 3 1 ∷ slot 2 0 4 ∷ [] }) (record { changes = record (puts []) { slot = Some (slot 0 5 9) }; marked = puts [] })).slots ≡ slot 0 3 1 ∷ slot 0 5 9 ∷ slot 2 0 4 ∷ []
a_new_slot = refl

its_row : task_row (record nothing_yet { rows = first ∷ second ∷ [] }) 2 ≡ Some second
its_row = refl

the_second_model : model_named nothing_yet (codes "unit") ≡ Some 1
the_second_model = refl

no_third_model : model_at nothing_yet 2 ≡ None
no_third_model = refl

no_task_zero : row_at 0 (first ∷ []) ≡ None
no_task_zero = refl

-- a sub task is counted with its top task
counted : total_size (unit ∷ []) (first ∷ record second { parent = Some (record { 0 = 1 }, 0) } ∷ second ∷ []) ≡ 2
counted = refl

-- ---- roles

anna_in_it : roles_in nothing_yet changed 0 ≡ record { initiator = false; stakeholder = false; potential_owner = false; actual_owner = false; administrator = false; operator = false }
anna_in_it = refl

dan_in_it : roles_in nothing_yet changed 3 ≡ record { initiator = true; stakeholder = false; potential_owner = false; actual_owner = false; administrator = false; operator = false }
dan_in_it = refl

root_in_it : roles_in nothing_yet (record changed { owner = Some 4; stakeholders = 4 ∷ [] }) 4 ≡ record { initiator = false; stakeholder = true; potential_owner = false; actual_owner = true; administrator = false; operator = true }
root_in_it = refl

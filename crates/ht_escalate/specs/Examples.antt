-- Worked examples. A wrong reading of a definition fails the check.
use Rattle.std.specs.Prelude.{◌≡◌, refl, ℕ, List, [], ◌∷◌, Some, None, codes, pos, false, true}
use Rattle.ht_base.specs.declared.kind.Kind.TheVariants as Kind
use Rattle.ht_base.specs.declared.moment.Moment.{Moment}
use Rattle.ht_base.specs.declared.state.State.{State}
use Rattle.ht_base.specs.declared.state.State.TheVariants.{Completed, Created, Failed, InProgress, Ready, Reserved, SuspendedInProgress, SuspendedReady, SuspendedReserved}
use Rattle.ht_base.specs.declared.value.Value.TheVariants as values
use Rattle.ht_due.specs.declared.due.Due.{Due}
use Rattle.ht_escalate.specs.Escalating.{notices_of, taken_row, with_notices}
use Rattle.ht_expr.specs.declared.node.Count.TheVariants as how_many
use Rattle.ht_expr.specs.declared.kinds.Side.TheVariants.{Input}
use Rattle.ht_expr.specs.declared.operator.Operator.TheVariants as operator
use Rattle.ht_expr.specs.Trees.{Tree, binary, count, group, initiator, integer, nobody, part, priority, truth, union, user}
use Rattle.ht_models.specs.BuiltIn.{plain_model}
use Rattle.ht_entries.specs.declared.deadlines.DeadlineKind.TheVariants.{Completion}
use Rattle.ht_models.specs.Model.{DeadlineOf, EscalationOf, ModelOf}
use Rattle.ht_people.specs.declared.entries.PersonEntry.{PersonEntry}
use Rattle.ht_people.specs.Directory.{DirectoryOf}
use Rattle.ht_tree.specs.declared.notice.Notice.{Notice}
use Rattle.ht_tree.specs.declared.row.Row.{Row}
use Rattle.ht_tree.specs.Creating.{bare_row, seen_in}
use Rattle.ht_tree.specs.RowDues.{first_due}
use Rattle.ht_tree.specs.Tables.{TablesOf, empty_tables, with_row}

abbrev person : List ℕ → PersonEntry
person name = record { name = name; operator = false }

-- anna, ben, cora and dan, and the clerks anna and ben
abbrev office : DirectoryOf
office = record {
  persons = person (codes "anna") ∷ person (codes "ben") ∷ person (codes "cora") ∷ person (codes "dan") ∷ [];
  groups = record { name = codes "clerks"; members = 0 ∷ 1 ∷ [] } ∷ [];
}

abbrev anna : Tree
anna = user (codes "anna")

abbrev ben : Tree
ben = user (codes "ben")

abbrev cora : Tree
cora = user (codes "cora")

abbrev at : ℕ → Moment
at n = record { 0 = n }

abbrev notify : List ℕ → Tree → EscalationOf
notify name whom = record { name = name; when = truth true; notify = Some whom; reassign = None }

abbrev reassign : List ℕ → Tree → EscalationOf
reassign name whom = record { name = name; when = truth true; notify = None; reassign = Some whom }

-- to be completed in ten seconds
abbrev deadline : List ℕ → List EscalationOf → DeadlineOf
deadline name escalations = record { name = name; kind = Completion; period = Some 10000; at = None; part = None; escalations = escalations }

-- ---- two deadlines of one moment

-- The first tells cora, gives the task to ben, and would give it to cora. The second tells dan.
abbrev one : DeadlineOf
one = deadline (codes "one") (notify (codes "tell") cora ∷ reassign (codes "move") ben ∷ reassign (codes "more") cora ∷ [])

abbrev two : DeadlineOf
two = deadline (codes "two") (notify (codes "tell") (user (codes "dan")) ∷ [])

abbrev timed : ModelOf
timed = record (plain_model (codes "timed")) { potential_owners = anna; deadlines = one ∷ two ∷ [] }

-- dan's task of 1000, which is reserved for anna
abbrev annas : Row
annas = record (bare_row (record { 0 = 1 }) 0 None 3 [] None (at 1000)) { state = Reserved; owner = Some 0; potential_owners = 0 ∷ [] }

abbrev before : TablesOf
before = record (empty_tables (timed ∷ []) office) { rows = annas ∷ []; last = 1000 }

abbrev due : ℕ → ℕ → Due
due moment place = record { at = at moment; task = record { 0 = 1 }; kind = 3; place = place }

nothing_is_due_yet : first_due before 10999 ≡ None
nothing_is_due_yet = refl

the_first_of_one_moment : first_due before 11000 ≡ Some (due 11000 0)
the_first_of_one_moment = refl

-- the task is ready for ben alone
bens : taken_row before annas timed one 0 ≡ record annas { state = Ready; owner = None; potential_owners = 1 ∷ []; taken = 0 ∷ [] }
bens = refl

abbrev to_cora : Notice
to_cora = record { task = record { 0 = 1 }; deadline = codes "one"; escalation = codes "tell"; moment = at 11000; recipients = 2 ∷ [] }

cora_is_told : notices_of office (seen_in timed before.rows annas) annas.task one (at 11000) ≡ to_cora ∷ []
cora_is_told = refl

abbrev between : TablesOf
between = record before { rows = record annas { state = Ready; owner = None; potential_owners = 1 ∷ []; taken = 0 ∷ [] } ∷ []; notices = to_cora ∷ [] }

after_one : with_notices (with_row before (taken_row before annas timed one 0)) (notices_of office (seen_in timed before.rows annas) annas.task one (at 11000)) ≡ between
after_one = refl

then_the_second : first_due between 11000 ≡ Some (due 11000 1)
then_the_second = refl

abbrev bens_row : Row
bens_row = record annas { state = Ready; owner = None; potential_owners = 1 ∷ []; taken = 0 ∷ [] }

-- dan is told, and ben keeps the task
dan_is_told : notices_of office (seen_in timed between.rows bens_row) bens_row.task two (at 11000) ≡ record to_cora { deadline = codes "two"; recipients = 3 ∷ [] } ∷ []
dan_is_told = refl

both_are_taken : taken_row between bens_row timed two 1 ≡ record bens_row { taken = 0 ∷ 1 ∷ [] }
both_are_taken = refl

nothing_is_due_any_more : first_due (record between { rows = record bens_row { taken = 0 ∷ 1 ∷ [] } ∷ [] }) 253402300799999 ≡ None
nothing_is_due_any_more = refl

-- the places ascend, in whatever order they are taken
the_second_before_the_first : (taken_row before (record annas { taken = 1 ∷ 3 ∷ [] }) timed two 2).taken ≡ 1 ∷ 2 ∷ 3 ∷ []
the_second_before_the_first = refl

-- ---- one deadline

-- of a model with these input parts
abbrev model : DeadlineOf → ModelOf
model d = record timed { input = record { name = codes "boss"; kind = Kind.Person; optional = true } ∷ record { name = codes "sum"; kind = Kind.Int; optional = true } ∷ []; deadlines = d ∷ [] }

abbrev taken : Row → List EscalationOf → Row
taken row es = let d = deadline (codes "d") es in taken_row (record before { models = model d ∷ []; rows = row ∷ [] }) row (model d) d 0

-- who are told, by which escalations
abbrev told : Row → List EscalationOf → List Notice
told row es = let d = deadline (codes "d") es in notices_of office (seen_in (model d) (row ∷ []) row) row.task d (at 11000)

abbrev notice : List ℕ → List ℕ → Notice
notice name recipients = record { task = record { 0 = 1 }; deadline = codes "d"; escalation = name; moment = at 11000; recipients = recipients }

-- in the text's order, also where nobody is found
around_a_reassignment : told annas (notify (codes "a") cora ∷ reassign (codes "b") ben ∷ notify (codes "c") nobody ∷ []) ≡ notice (codes "a") (2 ∷ []) ∷ notice (codes "c") [] ∷ []
around_a_reassignment = refl

-- a notification alone changes nothing but what was taken
told_alone : taken annas (notify (codes "a") cora ∷ []) ≡ record annas { taken = 0 ∷ [] }
told_alone = refl

no_escalation : taken annas [] ≡ record annas { taken = 0 ∷ [] }
no_escalation = refl

-- ---- reassignments

-- a task in progress is given to one person: she is to claim it, and who had it is no owner any more
given_to_one : taken (record annas { state = InProgress; started = true; last_owner = Some 3 }) (reassign (codes "a") ben ∷ []) ≡ record annas { state = Ready; owner = None; potential_owners = 1 ∷ []; started = true; last_owner = Some 3; taken = 0 ∷ [] }
given_to_one = refl

given_to_a_group : taken annas (reassign (codes "a") (group (codes "clerks")) ∷ []) ≡ record annas { state = Ready; owner = None; potential_owners = 0 ∷ 1 ∷ []; by_group = true; taken = 0 ∷ [] }
given_to_a_group = refl

from_a_group_to_one : (taken (record annas { by_group = true }) (reassign (codes "a") ben ∷ [])).by_group ≡ false
from_a_group_to_one = refl

-- but the excluded
without_the_excluded : (taken (record annas { excluded_owners = 1 ∷ 2 ∷ [] }) (reassign (codes "a") (union ben (union cora (user (codes "dan")))) ∷ [])).potential_owners ≡ 3 ∷ []
without_the_excluded = refl

-- where only excluded ones are found, nothing changes but what was taken
to_the_excluded_alone : taken (record annas { excluded_owners = 1 ∷ [] }) (reassign (codes "a") ben ∷ []) ≡ record annas { excluded_owners = 1 ∷ []; taken = 0 ∷ [] }
to_the_excluded_alone = refl

-- the first counts, also where it finds nobody
first_to_nobody : taken annas (reassign (codes "a") nobody ∷ reassign (codes "b") ben ∷ []) ≡ record annas { taken = 0 ∷ [] }
first_to_nobody = refl

-- one that isn't triggered doesn't count
first_not_triggered : (taken annas (record (reassign (codes "a") cora) { when = truth false } ∷ reassign (codes "b") ben ∷ [])).potential_owners ≡ 1 ∷ []
first_not_triggered = refl

-- ---- in each state

abbrev state_after : State → State
state_after state = (taken (record annas { state = state }) (reassign (codes "a") ben ∷ [])).state

ready_stays : state_after Ready ≡ Ready
ready_stays = refl

suspended_while_ready : state_after SuspendedReady ≡ SuspendedReady
suspended_while_ready = refl

suspended_while_reserved : state_after SuspendedReserved ≡ SuspendedReady
suspended_while_reserved = refl

suspended_in_progress : state_after SuspendedInProgress ≡ SuspendedReady
suspended_in_progress = refl

-- the end of the suspension stays
until_stays : (taken (record annas { state = SuspendedReserved; until = Some (at 20000) }) (reassign (codes "a") ben ∷ [])).until ≡ Some (at 20000)
until_stays = refl

-- a task that waits to be activated does so still
in_created : taken (record annas { state = Created; owner = None; waits = Some (at 20000) }) (reassign (codes "a") ben ∷ []) ≡ record annas { state = Created; owner = None; waits = Some (at 20000); potential_owners = 1 ∷ []; taken = 0 ∷ [] }
in_created = refl

-- ---- conditions

abbrev under : Tree → EscalationOf
under condition = record (notify (codes "a") cora) { when = condition }

-- whether somebody is told
by_the_priority : told (record annas { priority = 2 }) (under (binary operator.Less priority (integer 3)) ∷ []) ≡ notice (codes "a") (2 ∷ []) ∷ []
by_the_priority = refl

by_another_priority : told (record annas { priority = 3 }) (under (binary operator.Less priority (integer 3)) ∷ []) ≡ []
by_another_priority = refl

-- a number that isn't set is 0
by_an_unset_part : told annas (under (binary operator.Equal (part Input (codes "sum")) (integer 0)) ∷ []) ≡ notice (codes "a") (2 ∷ []) ∷ []
by_an_unset_part = refl

by_a_set_part : told (record annas { input = (codes "sum", values.Int (pos 7)) ∷ [] }) (under (binary operator.Equal (part Input (codes "sum")) (integer 0)) ∷ []) ≡ []
by_a_set_part = refl

by_the_initiator : told (record annas { input = (codes "boss", values.Person 3) ∷ [] }) (under (binary operator.Equal initiator (part Input (codes "boss"))) ∷ []) ≡ notice (codes "a") (2 ∷ []) ∷ []
by_the_initiator = refl

by_another_initiator : told (record annas { input = (codes "boss", values.Person 0) ∷ [] }) (under (binary operator.Equal initiator (part Input (codes "boss"))) ∷ []) ≡ []
by_another_initiator = refl

-- the notified may be found by a part too
whoever_is_given : told (record annas { input = (codes "boss", values.Person 1) ∷ [] }) (notify (codes "a") (part Input (codes "boss")) ∷ []) ≡ notice (codes "a") (1 ∷ []) ∷ []
whoever_is_given = refl

-- all conditions see the task as it was found: the reassignment doesn't make it the second's
as_it_was_found : (taken (record annas { state = InProgress }) (reassign (codes "a") ben ∷ reassign (codes "b") cora ∷ [])).potential_owners ≡ 1 ∷ []
as_it_was_found = refl

-- ---- sub tasks

abbrev sub : ℕ → State → Row
sub task state = record annas { task = record { 0 = task }; parent = Some (record { 0 = 1 }, task); state = state; owner = None }

abbrev ended : Tree → List Row → List Notice
ended condition rows = let d = deadline (codes "d") (under condition ∷ []) in notices_of office (seen_in (model d) rows annas) annas.task d (at 11000)

one_has_ended : ended (binary operator.Less (count how_many.Finished) (integer 2)) (annas ∷ sub 2 Failed ∷ sub 3 Ready ∷ []) ≡ notice (codes "a") (2 ∷ []) ∷ []
one_has_ended = refl

two_have_ended : ended (binary operator.Less (count how_many.Finished) (integer 2)) (annas ∷ sub 2 Failed ∷ sub 3 Completed ∷ []) ≡ []
two_have_ended = refl

-- Worked examples of the definitions. A wrong reading of one fails the check.
use Rattle.std.specs.Prelude.{◌≡◌, refl, ℕ, pos, List, [], ◌∷◌, Some, None, codes, true, false}
use Rattle.ht_base.specs.declared.how.How.TheVariants as how
use Rattle.ht_base.specs.declared.moment.Moment.{Moment}
use Rattle.ht_base.specs.declared.state.State.{State}
use Rattle.ht_base.specs.declared.state.State.TheVariants.{Completed, Created, Error, Exited, Failed, InProgress, Obsolete, Ready, Reserved, SuspendedInProgress, SuspendedReady, SuspendedReserved}
use Rattle.ht_base.specs.declared.value.Value.TheVariants.{Int, Text}
use Rattle.ht_compose.specs.Downward.{closing, freeing, holding, skipping}
use Rattle.ht_compose.specs.Finishes.{chosen, completed, values_for}
use Rattle.ht_compose.specs.Items.{Does, Item, does, mapped}
use Rattle.ht_compose.specs.Items.Item.{Activate, Begin, Check, Close, Make, Next, Up}
use Rattle.ht_expr.specs.declared.node.Count.TheVariants.{Done}
use Rattle.ht_expr.specs.declared.operator.Operator.TheVariants.{GreaterOrEqual}
use Rattle.ht_expr.specs.Trees.{Tree, binary, count, group, integer, truth}
use Rattle.ht_models.specs.BuiltIn.{plain_model}
use Rattle.ht_entries.specs.declared.choices.Composition.{Composition}
use Rattle.ht_entries.specs.declared.choices.Composition.TheVariants.{Parallel, Sequential}
use Rattle.ht_entries.specs.declared.choices.Trigger.TheVariants.{Automatic, Manual}
use Rattle.ht_entries.specs.Finishes.{setting}
use Rattle.ht_models.specs.Model.{FinishOf, ModelOf}
use Rattle.ht_entries.specs.SubEntries.{SubEntry, sub_entry}
use Rattle.ht_tree.specs.declared.row.Row.{Row}
use Rattle.ht_tree.specs.Creating.{bare_row}
use Rattle.ht_finding.specs.Examples.{office}
use Rattle.ht_tree.specs.Tables.{TablesOf, empty_tables}

abbrev pub at : Moment
at = record { 0 = 1000 }

-- ---- a family of three steps, and rows of it

-- each step is for the clerks, who are anna and ben
abbrev pub step : ModelOf
step = record (plain_model (codes "step")) { potential_owners = group (codes "clerks") }

abbrev pub entry : List ℕ → SubEntry
entry name = sub_entry name (codes "step") ((codes "goods", codes "order") ∷ (codes "place", codes "address") ∷ [])

abbrev pub family : Composition → ModelOf
family composition = record (plain_model (codes "family")) {
  composition = composition;
  instantiation = Automatic;
  completion = Automatic;
  subs = entry (codes "x") ∷ entry (codes "y") ∷ entry (codes "z") ∷ [];
  size = 4;
}

-- whose entries are made by hand
abbrev pub by_hand : ModelOf
by_hand = record (family Parallel) { instantiation = Manual }

abbrev pub tables : List ModelOf → List Row → TablesOf
tables models rows = record (empty_tables models office) { rows = rows }

-- this item makes these rows of those, and puts these items
abbrev Gives : ModelOf → List Row → Item → List Row → List Item → Type 0
Gives m old item new puts = Does at (tables (m ∷ step ∷ []) old) item (does (tables (m ∷ step ∷ []) new) puts)

abbrev Rests : ModelOf → List Row → Item → Type 0
Rests m rows item = Gives m rows item rows []

-- dan's task of this number, of the first model
abbrev pub task : ℕ → State → Row
task n state = record (bare_row (record { 0 = n }) 0 None 3 [] None at) { state = state }

-- a step of an entry of a task
abbrev pub sub : ℕ → ℕ → ℕ → State → Row
sub n parent e state = record (task n state) { parent = Some (record { 0 = parent }, e); model = 1 }

abbrev pub begun : Row → Row
begun row = record row { started = true }

-- it ended in this state, and whose it was
abbrev pub left_by : ℕ → Row → Row
left_by person row = record row { last_owner = Some person }

-- ---- activate

abbrev waiting : List ℕ → Row
waiting persons = record (task 1 Created) { potential_owners = persons; waits = Some at }

for_one : Gives (family Parallel) (waiting (0 ∷ []) ∷ []) (Activate 1) (record (task 1 Reserved) { potential_owners = 0 ∷ []; owner = Some 0 } ∷ []) []
for_one = refl

for_two : Gives (family Parallel) (waiting (0 ∷ 1 ∷ []) ∷ []) (Activate 1) (record (task 1 Ready) { potential_owners = 0 ∷ 1 ∷ [] } ∷ []) []
for_two = refl

-- it stays created, and waits no more
for_nobody : Gives (family Parallel) (waiting [] ∷ []) (Activate 1) (task 1 Created ∷ []) []
for_nobody = refl

-- a task without an owner begins at once
for_itself : Gives (record (family Parallel) { owner_required = false }) (waiting [] ∷ []) (Activate 1) (task 1 InProgress ∷ []) (Begin 1 ∷ [])
for_itself = refl

-- a second activation puts nothing
once : Rests (record (family Parallel) { owner_required = false }) (task 1 InProgress ∷ []) (Activate 1)
once = refl

-- a task that is ready is not given to its one potential owner, and one that has ended stays so
not_when_ready : Rests (family Parallel) (record (task 1 Ready) { potential_owners = 0 ∷ [] } ∷ []) (Activate 1)
not_when_ready = refl

not_when_obsolete : Rests (family Parallel) (record (task 1 Obsolete) { potential_owners = 0 ∷ [] } ∷ []) (Activate 1)
not_when_obsolete = refl

of_no_task : Rests (family Parallel) (task 1 Created ∷ []) (Activate 2)
of_no_task = refl

-- ---- begin

one_first : Gives (family Sequential) (task 1 InProgress ∷ []) (Begin 1) (begun (task 1 InProgress) ∷ []) (Make 1 0 ∷ Check 1 ∷ [])
one_first = refl

all_in_order : Gives (family Parallel) (task 1 InProgress ∷ []) (Begin 1) (begun (task 1 InProgress) ∷ []) (Make 1 0 ∷ Make 1 1 ∷ Make 1 2 ∷ Check 1 ∷ [])
all_in_order = refl

-- a task that began before makes nothing, but looks
again : Gives (family Parallel) (begun (task 1 InProgress) ∷ []) (Begin 1) (begun (task 1 InProgress) ∷ []) (Check 1 ∷ [])
again = refl

none_by_hand : Gives by_hand (task 1 InProgress ∷ []) (Begin 1) (begun (task 1 InProgress) ∷ []) (Check 1 ∷ [])
none_by_hand = refl

not_while_reserved : Rests (family Parallel) (task 1 Reserved ∷ []) (Begin 1)
not_while_reserved = refl

not_while_held : Rests (family Parallel) (task 1 SuspendedInProgress ∷ []) (Begin 1)
not_while_held = refl

not_behind_its_end : Rests (family Parallel) (task 1 Completed ∷ []) (Begin 1)
not_behind_its_end = refl

-- nor again, where entries come one behind another
one_behind_another_again : Gives (family Sequential) (begun (task 1 InProgress) ∷ []) (Begin 1) (begun (task 1 InProgress) ∷ []) (Check 1 ∷ [])
one_behind_another_again = refl

one_by_hand : Gives (record by_hand { composition = Sequential }) (task 1 InProgress ∷ []) (Begin 1) (begun (task 1 InProgress) ∷ []) (Check 1 ∷ [])
one_by_hand = refl

-- there is no first entry of none
without_entries : Gives (record (family Sequential) { subs = [] }) (task 1 InProgress ∷ []) (Begin 1) (begun (task 1 InProgress) ∷ []) (Check 1 ∷ [])
without_entries = refl

-- ---- make

abbrev of_anna : Row
of_anna = record (task 1 SuspendedInProgress) { owner = Some 0; stakeholders = 4 ∷ []; input = (codes "order", Int (pos 7)) ∷ [] }

abbrev made : ℕ → ℕ → Row
made initiator e = record (sub 2 1 e Created) {
  initiator = initiator;
  potential_owners = 0 ∷ 1 ∷ [];
  stakeholders = 4 ∷ [];
  by_group = true;
  input = (codes "goods", Int (pos 7)) ∷ [];
}

-- The owner of the parent is the initiator of the sub task, which has the values that are set of the
-- parts to which its own are mapped, and whose places are filled as those of any new task. Its parent may
-- be suspended.
a_sub_task : Gives by_hand (of_anna ∷ []) (Make 1 2) (of_anna ∷ made 0 2 ∷ []) (Activate 2 ∷ [])
a_sub_task = refl

without_an_owner : Gives by_hand (record of_anna { owner = None } ∷ []) (Make 1 0) (record of_anna { owner = None } ∷ made 3 0 ∷ []) (Activate 2 ∷ [])
without_an_owner = refl

-- it is created when it is made, whenever its parent was
long_after : Gives by_hand (record of_anna { created = record { 0 = 7 } } ∷ []) (Make 1 1) (record of_anna { created = record { 0 = 7 } } ∷ made 0 1 ∷ []) (Activate 2 ∷ [])
long_after = refl

made_already : Rests by_hand (of_anna ∷ sub 2 1 1 Obsolete ∷ []) (Make 1 1)
made_already = refl

made_of_another : Gives by_hand (of_anna ∷ sub 2 3 1 Ready ∷ task 3 Ready ∷ []) (Make 1 1) (of_anna ∷ sub 2 3 1 Ready ∷ task 3 Ready ∷ record (made 0 1) { task = record { 0 = 4 } } ∷ []) (Activate 4 ∷ [])
made_of_another = refl

of_an_ended_task : Rests by_hand (task 1 Failed ∷ []) (Make 1 0)
of_an_ended_task = refl

-- the family has no fourth entry
of_no_entry : Rests by_hand (of_anna ∷ []) (Make 1 3)
of_no_entry = refl

of_no_model : Rests (record by_hand { subs = sub_entry (codes "x") (codes "other") [] ∷ [] }) (of_anna ∷ []) (Make 1 0)
of_no_model = refl

-- in the order of their own names
in_order : mapped (sub_entry (codes "x") (codes "step") ((codes "b", codes "p") ∷ (codes "a", codes "q") ∷ [])) ((codes "p", Int (pos 1)) ∷ (codes "q", Int (pos 2)) ∷ []) ≡ (codes "a", Int (pos 2)) ∷ (codes "b", Int (pos 1)) ∷ []
in_order = refl

-- ---- check

abbrev pub finish : Tree → FinishOf
finish condition = record { when = Some condition; settings = [] }

abbrev pub default : FinishOf
default = record { when = None; settings = setting (codes "sum") (codes "goods") how.Sum ∷ [] }

-- finishes where so many steps are completed, and in any case where all have ended
abbrev pub goal : ℕ → ModelOf
goal n = record (family Parallel) { finishes = finish (binary GreaterOrEqual (count Done) (integer n)) ∷ default ∷ [] }

-- it doesn't look before a step has ended
not_yet : Rests (goal 0) (task 1 InProgress ∷ sub 2 1 0 Ready ∷ []) (Check 1)
not_yet = refl

-- the step of another task is none of its own
not_of_another : Rests (goal 0) (task 1 InProgress ∷ sub 2 3 0 Completed ∷ task 3 Ready ∷ []) (Check 1)
not_of_another = refl

-- and one that is further below isn't, either
not_of_a_step : Rests (goal 0) (task 1 InProgress ∷ sub 2 1 0 InProgress ∷ sub 3 2 0 Completed ∷ []) (Check 1)
not_of_a_step = refl

not_while_suspended : Rests (goal 0) (task 1 SuspendedInProgress ∷ sub 2 1 0 Completed ∷ []) (Check 1)
not_while_suspended = refl

not_twice : Rests (goal 0) (task 1 Completed ∷ sub 2 1 0 Completed ∷ []) (Check 1)
not_twice = refl

not_by_hand : Rests (record (goal 0) { completion = Manual }) (task 1 InProgress ∷ sub 2 1 0 Completed ∷ []) (Check 1)
not_by_hand = refl

-- the steps that are left are skipped first, and those below them
two_of_three : Gives (goal 1) (task 1 InProgress ∷ sub 2 1 0 Completed ∷ record (sub 3 1 1 InProgress) { owner = Some 1 } ∷ sub 4 3 0 Ready ∷ []) (Check 1) (task 1 InProgress ∷ sub 2 1 0 Completed ∷ left_by 1 (sub 3 1 1 Obsolete) ∷ sub 4 3 0 Obsolete ∷ []) (Close 1 Completed ∷ [])
two_of_three = (_, refl, refl)

-- a step that was skipped has ended too
one_is_skipped : Gives (goal 0) (task 1 InProgress ∷ sub 2 1 0 Obsolete ∷ []) (Check 1) (task 1 InProgress ∷ sub 2 1 0 Obsolete ∷ []) (Close 1 Completed ∷ [])
one_is_skipped = (_, refl, refl)

-- without a finish it goes on, though all have ended
without_a_finish : Rests (family Parallel) (task 1 InProgress ∷ sub 2 1 0 Completed ∷ sub 3 1 1 Completed ∷ sub 4 1 2 Completed ∷ []) (Check 1)
without_a_finish = refl

without_a_default : Rests (record (goal 0) { finishes = finish (truth false) ∷ [] }) (task 1 InProgress ∷ sub 2 1 0 Completed ∷ sub 3 1 1 Completed ∷ sub 4 1 2 Completed ∷ []) (Check 1)
without_a_default = refl

-- an entry that isn't made holds the default back, and so does a step that goes on
two_are_made : Rests (goal 3) (task 1 InProgress ∷ sub 2 1 0 Exited ∷ sub 3 1 1 Failed ∷ []) (Check 1)
two_are_made = refl

one_goes_on : Rests (goal 3) (task 1 InProgress ∷ sub 2 1 0 Exited ∷ sub 3 1 1 Failed ∷ sub 4 1 2 SuspendedReady ∷ []) (Check 1)
one_goes_on = refl

-- a step with a number of goods
abbrev pub counted : ℕ → ℕ → ℕ → State → Row
counted n e goods state = record (sub n 1 e state) { output = (codes "goods", Int (pos goods)) ∷ [] }

-- Where all have ended, the default is chosen. It adds what the completed steps have, and only those.
all_have_ended : Gives (goal 3) (task 1 InProgress ∷ counted 2 2 5 Completed ∷ counted 3 1 9 Failed ∷ counted 4 0 6 Completed ∷ []) (Check 1) (record (task 1 InProgress) { output = (codes "sum", Int (pos 11)) ∷ [] } ∷ counted 2 2 5 Completed ∷ counted 3 1 9 Failed ∷ counted 4 0 6 Completed ∷ []) (Close 1 Completed ∷ [])
all_have_ended = (_, (Some (Int (pos 11)), refl, refl), refl)

-- of two results for one part the later counts, and no result leaves the part as it was
abbrev three_results : ModelOf
three_results = record (goal 0) {
  finishes = record {
    when = Some (truth true);
    settings = setting (codes "sum") (codes "goods") how.Sum ∷ setting (codes "sum") (codes "miles") how.Sum ∷ setting (codes "least") (codes "miles") how.Min ∷ [];
  } ∷ [];
}

abbrev had : ℕ → Row
had n = record (task 1 InProgress) { output = (codes "least", Int (pos 3)) ∷ (codes "sum", Int (pos n)) ∷ [] }

the_later_result : Gives three_results (had 4 ∷ counted 2 0 5 Completed ∷ []) (Check 1) (had 0 ∷ counted 2 0 5 Completed ∷ []) (Close 1 Completed ∷ [])
the_later_result = (_, (Some (Int (pos 5)), refl, (Some (Int (pos 0)), refl, (None, refl, refl))), refl)

-- the first whose condition is true, though the default stands in front of it and a later one is true too
the_first : chosen (task 1 InProgress ∷ []) (record (family Parallel) { subs = []; finishes = default ∷ finish (truth false) ∷ finish (binary GreaterOrEqual (count Done) (integer 0)) ∷ finish (truth true) ∷ [] }) (task 1 InProgress) ≡ Some (finish (binary GreaterOrEqual (count Done) (integer 0)))
the_first = refl

-- values come in the order of the entries, not of the tasks, and only those of the aggregate's kind
by_entries : values_for how.Sum (codes "goods") (completed 1 3 (counted 2 2 5 Completed ∷ record (sub 3 1 1 Completed) { output = (codes "goods", Text (codes "many")) ∷ [] } ∷ counted 4 0 6 Completed ∷ [])) ≡ Int (pos 6) ∷ Int (pos 5) ∷ []
by_entries = refl

-- ---- close

-- a family of three levels, one of which has ended, and a task beside it
abbrev three_levels : List Row
three_levels =
    record (task 1 InProgress) { owner = Some 0 }
    ∷ record (sub 2 1 0 SuspendedInProgress) { owner = Some 1; until = Some at }
    ∷ record (sub 3 2 0 Created) { waits = Some at }
    ∷ left_by 2 (sub 4 2 1 Failed)
    ∷ record (task 5 Reserved) { owner = Some 0 }
    ∷ []

-- what is below is exited, on each level, and what had ended stays
as_completed : closing Completed 1 three_levels ≡ left_by 0 (task 1 Completed) ∷ left_by 1 (sub 2 1 0 Exited) ∷ sub 3 2 0 Exited ∷ left_by 2 (sub 4 2 1 Failed) ∷ record (task 5 Reserved) { owner = Some 0 } ∷ []
as_completed = refl

as_obsolete : closing Obsolete 1 three_levels ≡ left_by 0 (task 1 Obsolete) ∷ left_by 1 (sub 2 1 0 Obsolete) ∷ sub 3 2 0 Obsolete ∷ left_by 2 (sub 4 2 1 Failed) ∷ record (task 5 Reserved) { owner = Some 0 } ∷ []
as_obsolete = refl

-- what is above goes on
from_the_middle : Gives by_hand three_levels (Close 2 Error) (record (task 1 InProgress) { owner = Some 0 } ∷ left_by 1 (sub 2 1 0 Error) ∷ sub 3 2 0 Exited ∷ left_by 2 (sub 4 2 1 Failed) ∷ record (task 5 Reserved) { owner = Some 0 } ∷ []) (Up 1 2 ∷ [])
from_the_middle = refl

-- of a task without a parent nothing follows
at_the_top : Gives by_hand (task 1 Ready ∷ []) (Close 1 Obsolete) (task 1 Obsolete ∷ []) []
at_the_top = refl

closed_before : Rests by_hand (task 1 InProgress ∷ sub 2 1 0 Completed ∷ []) (Close 2 Failed)
closed_before = refl

closes_no_task : Rests by_hand (task 1 InProgress ∷ []) (Close 2 Failed)
closes_no_task = refl

-- all below are skipped, and the task stays
skipped : skipping 1 three_levels ≡ record (task 1 InProgress) { owner = Some 0 } ∷ left_by 1 (sub 2 1 0 Obsolete) ∷ sub 3 2 0 Obsolete ∷ left_by 2 (sub 4 2 1 Failed) ∷ record (task 5 Reserved) { owner = Some 0 } ∷ []
skipped = refl

-- ---- up and next

abbrev lost : Row
lost = record (sub 2 1 0 Failed) { fault = Some (codes "lost") }

-- whatever the state of the parent
it_fails_too : Gives (family Parallel) (task 1 SuspendedReady ∷ lost ∷ []) (Up 1 2) (record (task 1 SuspendedReady) { fault = Some (codes "lost") } ∷ lost ∷ []) (Close 1 Failed ∷ [])
it_fails_too = refl

-- a task in error has no fault, so that of the parent is gone
without_a_fault : Gives (family Parallel) (record (task 1 InProgress) { fault = Some (codes "old") } ∷ sub 2 1 0 Error ∷ []) (Up 1 2) (task 1 InProgress ∷ sub 2 1 0 Error ∷ []) (Close 1 Failed ∷ [])
without_a_fault = refl

it_looks : Gives (family Sequential) (task 1 InProgress ∷ sub 2 1 0 Exited ∷ []) (Up 1 2) (task 1 InProgress ∷ sub 2 1 0 Exited ∷ []) (Check 1 ∷ Next 1 2 ∷ [])
it_looks = refl

-- where the entries are made by hand, a failure ends nothing
by_hand_it_looks : Gives by_hand (task 1 InProgress ∷ lost ∷ []) (Up 1 2) (task 1 InProgress ∷ lost ∷ []) (Check 1 ∷ Next 1 2 ∷ [])
by_hand_it_looks = refl

by_hand_in_error : Gives by_hand (task 1 InProgress ∷ sub 2 1 0 Error ∷ []) (Up 1 2) (task 1 InProgress ∷ sub 2 1 0 Error ∷ []) (Check 1 ∷ Next 1 2 ∷ [])
by_hand_in_error = refl

-- what is skipped is no failure, also while the parent is held
it_looks_at_a_skip : Gives (family Sequential) (task 1 SuspendedReady ∷ sub 2 1 0 Obsolete ∷ []) (Up 1 2) (task 1 SuspendedReady ∷ sub 2 1 0 Obsolete ∷ []) (Check 1 ∷ Next 1 2 ∷ [])
it_looks_at_a_skip = refl

-- it goes on to the next entry itself, or not
it_looks_at_all_at_once : Gives (family Parallel) (task 1 InProgress ∷ sub 2 1 2 Completed ∷ []) (Up 1 2) (task 1 InProgress ∷ sub 2 1 2 Completed ∷ []) (Check 1 ∷ Next 1 2 ∷ [])
it_looks_at_all_at_once = refl

it_had_ended : Rests (family Parallel) (task 1 Exited ∷ lost ∷ []) (Up 1 2)
it_had_ended = refl

the_next : Gives (family Sequential) (task 1 SuspendedInProgress ∷ sub 2 1 1 Obsolete ∷ []) (Next 1 2) (task 1 SuspendedInProgress ∷ sub 2 1 1 Obsolete ∷ []) (Make 1 2 ∷ [])
the_next = refl

behind_the_last : Rests (family Sequential) (task 1 InProgress ∷ sub 2 1 2 Completed ∷ []) (Next 1 2)
behind_the_last = refl

all_at_once : Rests (family Parallel) (task 1 InProgress ∷ sub 2 1 0 Completed ∷ []) (Next 1 2)
all_at_once = refl

none_follows_by_hand : Rests (record by_hand { composition = Sequential }) (task 1 InProgress ∷ sub 2 1 0 Completed ∷ []) (Next 1 2)
none_follows_by_hand = refl

none_follows_the_end : Rests (family Sequential) (task 1 Completed ∷ sub 2 1 0 Completed ∷ []) (Next 1 2)
none_follows_the_end = refl

-- ---- hold and free

-- open tasks on two levels, one that waits and one that has ended
abbrev open_ones : List Row
open_ones = task 1 InProgress ∷ sub 2 1 0 InProgress ∷ sub 3 2 0 Ready ∷ sub 4 2 1 Reserved ∷ record (sub 5 1 1 Created) { waits = Some at } ∷ sub 6 1 2 Completed ∷ task 7 Ready ∷ []

held : holding 1 open_ones ≡ task 1 InProgress ∷ sub 2 1 0 SuspendedInProgress ∷ sub 3 2 0 SuspendedReady ∷ sub 4 2 1 SuspendedReserved ∷ record (sub 5 1 1 Created) { waits = Some at } ∷ sub 6 1 2 Completed ∷ task 7 Ready ∷ []
held = refl

-- a task that is suspended keeps the end of its suspension
held_before : holding 1 (task 1 InProgress ∷ record (sub 2 1 0 SuspendedReady) { until = Some at } ∷ []) ≡ task 1 InProgress ∷ record (sub 2 1 0 SuspendedReady) { until = Some at } ∷ []
held_before = refl

freed : freeing 1 (holding 1 open_ones) ≡ open_ones
freed = refl

-- also one that was suspended by itself, whose end is gone then
freed_from_its_own : freeing 1 (task 1 InProgress ∷ sub 2 1 0 Ready ∷ record (sub 3 2 0 SuspendedReserved) { until = Some at } ∷ record (task 4 SuspendedReady) { until = Some at } ∷ []) ≡ task 1 InProgress ∷ sub 2 1 0 Ready ∷ sub 3 2 0 Reserved ∷ record (task 4 SuspendedReady) { until = Some at } ∷ []
freed_from_its_own = refl

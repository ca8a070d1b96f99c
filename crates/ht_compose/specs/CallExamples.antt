-- Worked examples of what is done by hand, and of what follows where a task is resumed. A wrong reading of
-- one fails the check.
use Rattle.std.specs.Prelude.{◌≡◌, refl, ℕ, pos, List, [], ◌∷◌, Some, None, codes}
use Rattle.ht_base.specs.declared.how.How.TheVariants as how
use Rattle.ht_base.specs.declared.state.State.{State}
use Rattle.ht_base.specs.declared.state.State.TheVariants.{Completed, Failed, InProgress, Obsolete, Ready, SuspendedInProgress, SuspendedReady, SuspendedReserved}
use Rattle.ht_base.specs.declared.value.Value.TheVariants.{Int}
use Rattle.ht_compose.specs.Agenda.Ends.{end, on}
use Rattle.ht_compose.specs.ByHand.{entry_of}
use Rattle.ht_compose.specs.Examples.{at, by_hand, counted, default, family, goal, step, sub, tables, task}
use Rattle.ht_compose.specs.Freeing.{Frees, checks_of}
use Rattle.ht_compose.specs.Gathering.{Gathers}
use Rattle.ht_compose.specs.Items.{Item, Step, does}
use Rattle.ht_compose.specs.Items.Item.{Check, Close, Next, Up}
use Rattle.ht_expr.specs.declared.node.Count.TheVariants.{Done}
use Rattle.ht_expr.specs.declared.operator.Operator.TheVariants.{GreaterOrEqual}
use Rattle.ht_expr.specs.Trees.{binary, count, integer}
use Rattle.ht_entries.specs.declared.choices.Composition.TheVariants.{Parallel, Sequential}
use Rattle.ht_entries.specs.declared.choices.Trigger.TheVariants.{Automatic, Manual}
use Rattle.ht_entries.specs.Finishes.{setting}
use Rattle.ht_models.specs.Model.{ModelOf}
use Rattle.ht_tree.specs.declared.row.Row.{Row}

-- ---- completed by hand

-- whose owner completes it, and which has the miles of its steps where so many are completed
abbrev completed_by_hand : ℕ → ModelOf
completed_by_hand n = record (family Parallel) {
  completion = Manual;
  finishes = record { when = Some (binary GreaterOrEqual (count Done) (integer n)); settings = setting (codes "miles") (codes "goods") how.Sum ∷ [] } ∷ default ∷ [];
}

-- completing the first task makes these rows of those
abbrev Has : ModelOf → List Row → List Row → Type 0
Has m old new = Gathers (tables (m ∷ step ∷ []) old) 1 (tables (m ∷ step ∷ []) new)

-- with this number as the only part of its output
abbrev with_output : List ℕ → ℕ → Row
with_output part n = record (task 1 InProgress) { output = (part, Int (pos n)) ∷ [] }

-- the steps that go on do so until it ends
by_a_finish : Has (completed_by_hand 1) (task 1 InProgress ∷ counted 2 0 5 Completed ∷ counted 3 1 7 InProgress ∷ []) (with_output (codes "miles") 5 ∷ counted 2 0 5 Completed ∷ counted 3 1 7 InProgress ∷ [])
by_a_finish = (_, _, refl, refl, (_, (Some (Int (pos 5)), refl, refl), refl))

-- before any of its steps is made, too: nobody asks for one that has ended
before_a_step : Has (completed_by_hand 0) (task 1 InProgress ∷ []) (with_output (codes "miles") 0 ∷ [])
before_a_step = (_, _, refl, refl, (_, (Some (Int (pos 0)), refl, refl), refl))

by_default : Has (completed_by_hand 3) (task 1 InProgress ∷ counted 2 0 5 Completed ∷ counted 3 1 7 Failed ∷ counted 4 2 6 Completed ∷ []) (with_output (codes "sum") 11 ∷ counted 2 0 5 Completed ∷ counted 3 1 7 Failed ∷ counted 4 2 6 Completed ∷ [])
by_default = (_, _, refl, refl, (_, (Some (Int (pos 11)), refl, refl), refl))

-- where there are no entries all have ended
of_no_entries : Has (record (completed_by_hand 3) { subs = [] }) (task 1 InProgress ∷ []) (with_output (codes "sum") 0 ∷ [])
of_no_entries = (_, _, refl, refl, (_, (Some (Int (pos 0)), refl, refl), refl))

-- it may be completed though none is chosen, and has nothing of its steps then
by_none : Has (completed_by_hand 3) (task 1 InProgress ∷ counted 2 0 5 Completed ∷ []) (task 1 InProgress ∷ counted 2 0 5 Completed ∷ [])
by_none = (_, _, refl, refl, refl)

-- one that finishes by itself has nothing of them before
by_itself : Has (record (completed_by_hand 1) { completion = Automatic }) (task 1 InProgress ∷ counted 2 0 5 Completed ∷ []) (task 1 InProgress ∷ counted 2 0 5 Completed ∷ [])
by_itself = (_, _, refl, refl, refl)

-- ---- entries by hand

abbrev in_sequence : ModelOf
in_sequence = record by_hand { composition = Sequential }

any_of_them : entry_of (task 1 InProgress ∷ []) by_hand 1 (codes "z") ≡ Some 2
any_of_them = refl

none_of_this_name : entry_of (task 1 InProgress ∷ []) by_hand 1 (codes "w") ≡ None
none_of_this_name = refl

-- the name is that of the entry, and not of its model
none_by_its_model : entry_of (task 1 InProgress ∷ []) by_hand 1 (codes "step") ≡ None
none_by_its_model = refl

none_that_comes_by_itself : entry_of (task 1 InProgress ∷ []) (family Parallel) 1 (codes "x") ≡ None
none_that_comes_by_itself = refl

none_twice : entry_of (task 1 InProgress ∷ sub 2 1 1 Obsolete ∷ []) by_hand 1 (codes "y") ≡ None
none_twice = refl

-- that of another task is another one
made_for_another : entry_of (task 1 InProgress ∷ sub 2 3 1 Ready ∷ task 3 InProgress ∷ []) by_hand 1 (codes "y") ≡ Some 1
made_for_another = refl

-- in a sequence the first comes first
the_first_one : entry_of (task 1 InProgress ∷ []) in_sequence 1 (codes "x") ≡ Some 0
the_first_one = refl

not_before_the_first : entry_of (task 1 InProgress ∷ []) in_sequence 1 (codes "y") ≡ None
not_before_the_first = refl

not_beside_the_first : entry_of (task 1 InProgress ∷ sub 2 1 0 SuspendedReady ∷ []) in_sequence 1 (codes "y") ≡ None
not_beside_the_first = refl

-- however that ended
behind_the_first : entry_of (task 1 InProgress ∷ sub 2 1 0 Failed ∷ []) in_sequence 1 (codes "y") ≡ Some 1
behind_the_first = refl

-- each of those before it has ended
not_behind_some : entry_of (task 1 InProgress ∷ sub 2 1 1 Completed ∷ []) in_sequence 1 (codes "z") ≡ None
not_behind_some = refl

behind_all : entry_of (task 1 InProgress ∷ sub 2 1 1 Completed ∷ sub 3 1 0 Obsolete ∷ []) in_sequence 1 (codes "z") ≡ Some 2
behind_all = refl

-- ---- resumed

-- suspended steps on two levels, one that isn't, one that has ended, and a task beside them
abbrev some_suspended : List Row
some_suspended = task 1 InProgress ∷ sub 2 1 0 SuspendedReady ∷ sub 3 2 0 SuspendedInProgress ∷ sub 4 1 1 Ready ∷ sub 5 1 2 SuspendedReserved ∷ task 6 SuspendedReady ∷ sub 7 2 1 Completed ∷ []

from_the_greatest : checks_of 1 some_suspended ≡ Check 5 ∷ Check 3 ∷ Check 2 ∷ Check 1 ∷ []
from_the_greatest = refl

-- only those below it
below_a_step : checks_of 2 some_suspended ≡ Check 3 ∷ Check 2 ∷ []
below_a_step = refl

-- the task is checked though nothing below it was suspended, and once though it is itself
itself_alone : checks_of 1 (task 1 InProgress ∷ sub 2 1 0 Ready ∷ []) ≡ Check 1 ∷ []
itself_alone = refl

itself_once : checks_of 1 (task 1 SuspendedInProgress ∷ sub 2 1 0 SuspendedReady ∷ []) ≡ Check 2 ∷ Check 1 ∷ []
itself_once = refl

-- the tables of families of which one step is enough
abbrev one_enough : List Row → List Item → Step
one_enough rows puts = does (tables (goal 1 ∷ step ∷ []) rows) puts

-- A step was completed while the task was suspended. Where it is resumed, the other step comes back, and
-- is skipped, since one is enough.
it_ends_where_it_is_resumed : Frees at 1 (one_enough (task 1 InProgress ∷ sub 2 1 0 Completed ∷ sub 3 1 1 SuspendedReady ∷ []) []).tables (one_enough (task 1 Completed ∷ sub 2 1 0 Completed ∷ sub 3 1 1 Obsolete ∷ []) []).tables
it_ends_where_it_is_resumed =
    on {d = one_enough (task 1 InProgress ∷ sub 2 1 0 Completed ∷ sub 3 1 1 Ready ∷ []) []} refl
    (on {d = one_enough (task 1 InProgress ∷ sub 2 1 0 Completed ∷ sub 3 1 1 Obsolete ∷ []) (Close 1 Completed ∷ [])} (_, refl, refl)
    (on {d = one_enough (task 1 Completed ∷ sub 2 1 0 Completed ∷ sub 3 1 1 Obsolete ∷ []) []} refl
    end))

-- A family in a family, of each of which one step is enough. The inner one is checked first and ends, and
-- with it the outer one, which has nothing more to do where its own turn comes.
abbrev inner : State → Row
inner state = record (sub 2 1 0 state) { model = 0 }

the_inner_one_ends_first : Frees at 1 (one_enough (task 1 InProgress ∷ inner SuspendedInProgress ∷ sub 3 2 0 Completed ∷ []) []).tables (one_enough (task 1 Completed ∷ inner Completed ∷ sub 3 2 0 Completed ∷ []) []).tables
the_inner_one_ends_first =
    on {d = one_enough (task 1 InProgress ∷ inner InProgress ∷ sub 3 2 0 Completed ∷ []) (Close 2 Completed ∷ [])} (_, refl, refl)
    (on {d = one_enough (task 1 InProgress ∷ inner Completed ∷ sub 3 2 0 Completed ∷ []) (Up 1 2 ∷ [])} refl
    (on {d = one_enough (task 1 InProgress ∷ inner Completed ∷ sub 3 2 0 Completed ∷ []) (Check 1 ∷ Next 1 2 ∷ [])} refl
    (on {d = one_enough (task 1 InProgress ∷ inner Completed ∷ sub 3 2 0 Completed ∷ []) (Close 1 Completed ∷ [])} (_, refl, refl)
    (on {d = one_enough (task 1 Completed ∷ inner Completed ∷ sub 3 2 0 Completed ∷ []) []} refl
    (on {d = one_enough (task 1 Completed ∷ inner Completed ∷ sub 3 2 0 Completed ∷ []) []} refl
    (on {d = one_enough (task 1 Completed ∷ inner Completed ∷ sub 3 2 0 Completed ∷ []) []} refl
    end))))))

-- Worked examples of rows that operations move. A wrong reading of one fails the check.
use Rattle.ht_tree.specs.Tables.{empty_tables, TablesOf}
use Rattle.std.specs.Prelude.{◌≡◌, refl, ℕ, List, replicate, [], ◌∷◌, Some, None, codes, true, false}
use Rattle.ht_base.specs.declared.end.End.TheVariants as ends
use Rattle.ht_base.specs.declared.event.Command.{Command}
use Rattle.ht_base.specs.declared.event.Command.TheVariants as command
use Rattle.ht_base.specs.declared.kind.Kind.TheVariants as kind
use Rattle.ht_base.specs.declared.moment.Moment.{Moment}
use Rattle.ht_base.specs.declared.operation.Op.TheVariants.{Start, Stop, Release, Delegate, Resume, Activate}
use Rattle.ht_base.specs.declared.reply.Limit.TheVariants.{Comments}
use Rattle.ht_base.specs.declared.reply.Refusal.TheVariants as refusal
use Rattle.ht_base.specs.declared.reply.Unknown.TheVariants as unknown
use Rattle.ht_base.specs.declared.role_list.RoleList.TheVariants as list
use Rattle.ht_base.specs.declared.scalar.Scalar.{Scalar}
use Rattle.ht_base.specs.declared.scalar.Scalar.TheVariants as scalar
use Rattle.ht_base.specs.declared.state.State.TheVariants as state
use Rattle.ht_base.specs.declared.value.Value.TheVariants as values
use Rattle.ht_expr.specs.declared.node.Count.TheVariants.{Done}
use Rattle.ht_expr.specs.declared.operator.Operator.TheVariants as operator
use Rattle.ht_expr.specs.Trees.{binary, count, integer, nobody, user, when}
use Rattle.ht_entries.specs.declared.choices.Delegation.TheVariants as delegation
use Rattle.ht_models.specs.Model.{ModelOf}
use Rattle.ht_entries.specs.Parts.{part}
use Rattle.ht_owner.specs.declared.follow.Follow.TheVariants as follow
use Rattle.ht_owner.specs.declared.follow.Follow.TheVariants.{Began, Close, Freed, Held, Nothing}
use Rattle.ht_owner.specs.Effects.{Effect, does, effect, refuses}
use Rattle.ht_owner.specs.Moving.{moved}
use Rattle.ht_owner.specs.Suspending.{end_at}
use Rattle.ht_tree.specs.declared.comments.Comment.{Comment}
use Rattle.ht_tree.specs.declared.row.Row.{Row}
use Rattle.ht_tree.specs.Creating.{bare_row}
use Rattle.ht_finding.specs.Examples.{office}
use Rattle.ht_tree.specs.Examples.{unit}

abbrev at : ℕ → Moment
at n = record { 0 = n }

-- a task with the potential owners 0 and 1, which waits
abbrev waiting : Row
waiting = record (bare_row (record { 0 = 1 }) 0 None 3 [] (Some (at 5000)) (at 1000)) { potential_owners = 0 ∷ 1 ∷ [] }

abbrev ready : Row
ready = record waiting { state = state.Ready; waits = None }

abbrev reserved : Row
reserved = record ready { state = state.Reserved; owner = Some 0 }

abbrev held : Row
held = record reserved { state = state.SuspendedReserved; until = Some (at 9000) }

-- ---- commands

abbrev started : Row
started = record reserved { state = state.InProgress }

-- tables with these tasks
abbrev among : List Row → TablesOf
among rows = record (empty_tables [] office) { rows = rows }

-- what comes of a caller's command on the only task
abbrev comes : ModelOf → ℕ → Command → Row → Effect
comes m caller c row = effect (among (row ∷ [])) m caller (at 2000) c row

a_claim : comes unit 0 command.Claim ready ≡ does reserved Nothing
a_claim = refl

a_start : comes unit 1 command.Start ready ≡ does (record ready { state = state.InProgress; owner = Some 1 }) Began
a_start = refl

a_stop : comes unit 0 command.Stop started ≡ does reserved Nothing
a_stop = refl

without_an_owner : comes (record unit { owner_required = false }) 0 command.Stop started ≡ refuses refusal.Ownerless
without_an_owner = refl

a_delegation_adds : comes unit 0 (command.Delegate (codes "cora")) reserved ≡ does (record reserved { owner = Some 2; potential_owners = 0 ∷ 1 ∷ 2 ∷ [] }) Nothing
a_delegation_adds = refl

to_a_stranger : comes unit 0 (command.Delegate (codes "eve")) reserved ≡ refuses (refusal.Unknown (unknown.Person (codes "eve")))
to_a_stranger = refl

to_nobody : comes (record unit { delegation = delegation.Nobody }) 0 (command.Delegate (codes "ben")) reserved ≡ refuses (refusal.NotDelegatee (codes "ben"))
to_nobody = refl

-- an excluded owner is told before one who is no delegatee
excluded_first : comes (record unit { delegation = delegation.Nobody }) 0 (command.Delegate (codes "cora")) (record reserved { excluded_owners = 2 ∷ [] }) ≡ refuses (refusal.Excluded (codes "cora"))
excluded_first = refl

abbrev to_cora : ModelOf
to_cora = record unit { delegation = delegation.Other; delegatees = Some (user (codes "cora")) }

to_no_delegatee : comes to_cora 0 (command.Delegate (codes "ben")) reserved ≡ refuses (refusal.NotDelegatee (codes "ben"))
to_no_delegatee = refl

-- to cora once a sub task is completed
abbrev to_cora_after_one : ModelOf
to_cora_after_one = record to_cora { delegatees = Some (when (binary operator.Less (integer 0) (count Done)) (user (codes "cora")) nobody) }

abbrev completed_below : ℕ → Row
completed_below parent = record reserved { task = record { 0 = 9 }; parent = Some (record { 0 = parent }, 0); state = state.Completed; owner = None }

to_cora_too_early : comes to_cora_after_one 0 (command.Delegate (codes "cora")) reserved ≡ refuses (refusal.NotDelegatee (codes "cora"))
to_cora_too_early = refl

after_a_sub_task : effect (among (reserved ∷ completed_below 1 ∷ [])) to_cora_after_one 0 (at 2000) (command.Delegate (codes "cora")) reserved ≡ does (record reserved { owner = Some 2; potential_owners = 0 ∷ 1 ∷ 2 ∷ [] }) Nothing
after_a_sub_task = refl

after_another_sub_task : effect (among (reserved ∷ completed_below 2 ∷ [])) to_cora_after_one 0 (at 2000) (command.Delegate (codes "cora")) reserved ≡ refuses (refusal.NotDelegatee (codes "cora"))
after_another_sub_task = refl

-- the owner hands it on, and then has nothing to do with it
a_forward : comes unit 0 (command.Forward (codes "cora" ∷ [])) started ≡ does (record ready { potential_owners = 1 ∷ 2 ∷ [] }) Nothing
a_forward = refl

-- of a ready task the caller does
a_forward_of_a_ready_task : comes unit 1 (command.Forward (codes "cora" ∷ [])) ready ≡ does (record ready { potential_owners = 0 ∷ 2 ∷ [] }) Nothing
a_forward_of_a_ready_task = refl

by_group_first : comes unit 0 (command.Forward (codes "eve" ∷ [])) (record reserved { by_group = true }) ≡ refuses refusal.ByGroup
by_group_first = refl

a_nomination_of_two : comes unit 4 (command.Nominate (codes "cora" ∷ codes "ben" ∷ [])) (record waiting { by_group = true }) ≡ does (record ready { potential_owners = 1 ∷ 2 ∷ [] }) Nothing
a_nomination_of_two = refl

nobody_to_activate_for : comes unit 4 command.Activate (record waiting { potential_owners = [] }) ≡ refuses refusal.NoOwners
nobody_to_activate_for = refl

-- the task waits on: its activation is still to come
an_activation_to_come : comes unit 4 command.Activate waiting ≡ does waiting follow.Activate
an_activation_to_come = refl

-- nobody need be a potential owner of a task that never has an owner
an_activation_for_nobody : comes (record unit { owner_required = false }) 4 command.Activate (record waiting { potential_owners = [] }) ≡ does (record waiting { potential_owners = [] }) follow.Activate
an_activation_for_nobody = refl

-- whoever is excluded is no potential owner any more
an_exclusion : comes unit 2 (command.SetRole list.ExcludedOwners (codes "ben" ∷ [])) reserved ≡ does (record reserved { excluded_owners = 1 ∷ []; potential_owners = 0 ∷ [] }) Nothing
an_exclusion = refl

the_owner_excluded : comes unit 2 (command.SetRole list.ExcludedOwners (codes "ben" ∷ codes "anna" ∷ [])) reserved ≡ refuses (refusal.Excluded (codes "anna"))
the_owner_excluded = refl

-- the state stays, whoever may own it
others_may_own : comes unit 2 (command.SetRole list.PotentialOwners (codes "dan" ∷ [])) (record reserved { by_group = true }) ≡ does (record reserved { potential_owners = 3 ∷ [] }) Nothing
others_may_own = refl

another_priority : comes unit 2 (command.SetPriority 0) reserved ≡ does (record reserved { priority = 0 }) Nothing
another_priority = refl

-- ---- suspensions

a_suspension : comes unit 0 command.Suspend started ≡ does (record started { state = state.SuspendedInProgress }) Held
a_suspension = refl

-- it goes on in the state before, and has no end of its suspension
a_resumption : comes unit 0 command.Resume held ≡ does reserved Freed
a_resumption = refl

-- ---- the output

-- a vote must be given, a witness may
abbrev ballot : ModelOf
ballot = record unit {
  input = part (codes "question") kind.Text false ∷ [];
  output = part (codes "vote") kind.Text false ∷ part (codes "agreed") kind.Truth false ∷ part (codes "witness") kind.Person true ∷ [];
  skipable = false;
}

abbrev yes : List ℕ × Scalar
yes = (codes "vote", scalar.Text (codes "yes"))

abbrev voted : Row
voted = record started { output = (codes "vote", values.Text (codes "yes")) ∷ [] }

an_output : comes ballot 0 (command.SetOutput (yes ∷ [])) started ≡ does voted Nothing
an_output = refl

-- what isn't given stays, and what is given again is replaced
an_output_again : comes ballot 0 (command.SetOutput ((codes "vote", scalar.Text (codes "no")) ∷ (codes "witness", scalar.Text (codes "ben")) ∷ [])) (record started { output = (codes "agreed", values.Truth true) ∷ (codes "vote", values.Text (codes "yes")) ∷ [] }) ≡ does (record started { output = (codes "agreed", values.Truth true) ∷ (codes "vote", values.Text (codes "no")) ∷ (codes "witness", values.Person 1) ∷ [] }) Nothing
an_output_again = refl

-- a part of the input is none of the output
an_output_of_the_input : comes ballot 0 (command.SetOutput ((codes "question", scalar.Text (codes "why")) ∷ yes ∷ [])) started ≡ refuses (refusal.PartRefused (codes "question"))
an_output_of_the_input = refl

another_kind : comes ballot 0 (command.SetOutput ((codes "vote", scalar.Truth true) ∷ [])) started ≡ refuses (refusal.PartRefused (codes "vote"))
another_kind = refl

-- ---- ends

-- the first in the order of the model, which is not that of the bytes
nothing_set : comes ballot 0 (command.Complete []) started ≡ refuses (refusal.NoOutput (codes "vote"))
nothing_set = refl

one_set : comes ballot 0 (command.Complete (yes ∷ [])) started ≡ refuses (refusal.NoOutput (codes "agreed"))
one_set = refl

another_kind_first : comes ballot 0 (command.Complete ((codes "witness", scalar.Text (codes "eve")) ∷ [])) started ≡ refuses (refusal.PartRefused (codes "witness"))
another_kind_first = refl

-- its output is set, and then it is to end
a_completion : comes ballot 0 (command.Complete ((codes "agreed", scalar.Truth false) ∷ [])) voted ≡ does (record voted { output = (codes "agreed", values.Truth false) ∷ (codes "vote", values.Text (codes "yes")) ∷ [] }) (Close state.Completed)
a_completion = refl

-- ---- suspensions that end by themselves, of a command that acts at 2000

until_a_moment : comes unit 0 (command.SuspendUntil (ends.At (at 5000))) reserved ≡ does (record reserved { state = state.SuspendedReserved; until = Some (at 5000) }) Held
until_a_moment = refl

for_a_period : comes unit 0 (command.SuspendUntil (ends.After 3000)) reserved ≡ does (record reserved { state = state.SuspendedReserved; until = Some (at 5000) }) Held
for_a_period = refl

until_now : comes unit 0 (command.SuspendUntil (ends.At (at 2000))) reserved ≡ refuses refusal.UntilPast
until_now = refl

for_no_time : comes unit 0 (command.SuspendUntil (ends.After 0)) reserved ≡ refuses refusal.UntilPast
for_no_time = refl

-- a sum is no later than the last moment there is
to_the_last_moment : end_at (at 253402300799000) (ends.After 1000) ≡ at 253402300799999
to_the_last_moment = refl

a_failure : comes ballot 0 (command.Fail (Some (codes "torn"))) started ≡ does (record started { fault = Some (codes "torn") }) (Close state.Failed)
a_failure = refl

a_skip : comes (record ballot { skipable = true }) 3 command.Skip waiting ≡ does waiting (Close state.Obsolete)
a_skip = refl

no_skip : comes ballot 3 command.Skip waiting ≡ refuses refusal.NotSkipable
no_skip = refl

an_exit : comes ballot 4 command.Exit held ≡ does held (Close state.Exited)
an_exit = refl

-- ---- comments

abbrev well : Comment
well = record { moment = at 2000; person = 3; text = codes "well" }

-- of an ended task too
a_comment : comes unit 3 (command.AddComment (codes "well")) (record ready { state = state.Completed; comments = well ∷ [] }) ≡ does (record ready { state = state.Completed; comments = well ∷ well ∷ [] }) Nothing
a_comment = refl

thirty_three_comments : comes unit 3 (command.AddComment (codes "well")) (record ready { comments = replicate 32 well }) ≡ refuses (refusal.Limit Comments)
thirty_three_comments = refl

-- ---- moves

a_start_from_ready : moved Start 1 1 ready ≡ record ready { state = state.InProgress; owner = Some 1 }
a_start_from_ready = refl

-- who starts a reserved task isn't its owner anew
a_start_from_reserved : moved Start 1 1 reserved ≡ record reserved { state = state.InProgress }
a_start_from_reserved = refl

a_release : moved Release 2 2 reserved ≡ ready
a_release = refl

-- the person who is named owns it, and not who calls
a_delegation : moved Delegate 2 1 ready ≡ record ready { state = state.Reserved; owner = Some 1 }
a_delegation = refl

-- several potential owners: ready, and it waits no more
an_activation : moved Activate 2 2 waiting ≡ ready
an_activation = refl

-- with one it is that person's
an_activation_for_one : moved Activate 2 2 (record waiting { potential_owners = 1 ∷ [] }) ≡ record waiting { potential_owners = 1 ∷ []; state = state.Reserved; owner = Some 1; waits = None }
an_activation_for_one = refl

-- a resumed task has no end of its suspension
a_resumed_task : moved Resume 0 0 held ≡ reserved
a_resumed_task = refl

-- what is not of the table changes nothing
a_stop_of_a_ready_task : moved Stop 0 0 ready ≡ ready
a_stop_of_a_ready_task = refl

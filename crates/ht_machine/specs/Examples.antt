-- Worked examples of the definitions, by computation and by derivation. A wrong reading of one fails
-- the check.
use Rattle.std.specs.Prelude.{◌≡◌, refl, ℕ, pos, Bool, true, false, List, ◌∷◌, [], Option, Some, None, codes}
use Rattle.std.proofs.Common.{ap, arith, inl, inr}
use Rattle.ht_base.specs.declared.event.Command.{Command}
use Rattle.ht_base.specs.declared.event.Command.TheVariants.{AddComment, Create, Claim, Exit}
use Rattle.ht_base.specs.declared.event.Event.{Event}
use Rattle.ht_base.specs.declared.event.Event.TheVariants.{Ask, Read}
use Rattle.ht_base.specs.declared.query.Query.TheVariants as query
use Rattle.ht_base.specs.declared.kind.Kind.TheVariants.{Int}
use Rattle.ht_base.specs.declared.operation.Op.TheVariants as op
use Rattle.ht_base.specs.declared.record.Record.{Record}
use Rattle.ht_base.specs.declared.record.Record.TheVariants.{Asked}
use Rattle.ht_base.specs.declared.reply.Answer.{Answer}
use Rattle.ht_base.specs.declared.reply.Answer.TheVariants.{Done, Refused}
use Rattle.ht_base.specs.declared.reply.Refusal.TheVariants.{NumberReused, NumberStale, PartRefused, Person, Task, Role, State, Unknown}
use Rattle.ht_base.specs.declared.reply.Unknown.TheVariants.{Model}
use Rattle.ht_base.specs.declared.retry.Retry.{Retry}
use Rattle.ht_base.specs.declared.role.Role.TheVariants.{PotentialOwner}
use Rattle.ht_base.specs.declared.scalar.Scalar.TheVariants as scalar
use Rattle.ht_base.specs.declared.task_id.TaskId.{TaskId}
use Rattle.ht_base.specs.declared.state.State.TheVariants.{Created, Ready, Reserved, InProgress, SuspendedReady, SuspendedReserved, SuspendedInProgress, Exited, Obsolete}
use Rattle.ht_expr.specs.Assignments.{user}
use Rattle.ht_compose.specs.Agenda.Ends.{end, on}
use Rattle.ht_compose.specs.Downward.{closed}
use Rattle.ht_machine.specs.Commands.{accepted, refused, waits_until, why_not_created}
use Rattle.ht_machine.specs.declared.sending.Sending.TheVariants as sending
use Rattle.ht_machine.specs.declared.sending.Sending.TheVariants.{New, Answered}
use Rattle.ht_machine.specs.Deciding.{Behind, Decides, Doing, kept_at, left_with, reply_of}
use Rattle.ht_machine.specs.Sending.{IsSent}
use Rattle.ht_machine.specs.Turning.{Takings}
use Rattle.ht_machine.specs.Gate.{gate, shuts}
use Rattle.ht_lists.specs.Sheets.{sheet_of}
use Rattle.ht_entries.specs.declared.deadlines.DeadlineKind.TheVariants.{Start}
use Rattle.ht_models.specs.Model.{ModelOf}
use Rattle.ht_entries.specs.Parts.{Part}
use Rattle.ht_entries.specs.SubEntries.{sub_entry}
use Rattle.ht_rules.specs.Judging.{needed}
use Rattle.ht_rules.specs.Sets.{roles_of, states_of}
use Rattle.ht_tree.specs.declared.row.Row.{Row}
use Rattle.ht_tree.specs.declared.slot.Kept.{Kept}
use Rattle.ht_tree.specs.declared.slot.Kept.TheVariants as reply
use Rattle.ht_tree.specs.declared.slot.Slot.{Slot}
use Rattle.ht_tree.specs.Creating.{new_row}
use Rattle.ht_finding.specs.Examples.{office}
use Rattle.ht_tree.specs.Examples.{shut, unit}
use Rattle.ht_tree.specs.RowDues.{first_due}
use Rattle.ht_tree.specs.Tables.{TablesOf, empty_tables}

-- ---- an office

abbrev solo : ModelOf
solo = record unit { name = codes "solo"; potential_owners = user (codes "anna"); administrators = None }

abbrev pub nothing_yet : TablesOf
nothing_yet = empty_tables (unit ∷ solo ∷ shut ∷ []) office

abbrev pub asks : List ℕ → ℕ → ℕ → Command → Event
asks caller moment task command = Ask (record { 0 = moment }) caller None (record { 0 = task }) command

abbrev pub kept : List ℕ → ℕ → ℕ → Command → Option Record
kept caller moment task command = Some (Asked (record { 0 = moment }) caller None (record { 0 = task }) command)

-- a task of dan's, of a model at its place
abbrev task_of : ModelOf → ℕ → Row
task_of m place = new_row nothing_yet m place None 3 [] None (record { 0 = 1000 })

-- ---- why no task of a model can be created

abbrev input : List ℕ → Bool → Part
input name optional = record { name = name; kind = Int; optional = optional }

nothing_is_missing : why_not_created office (record unit { input = input (codes "a") true ∷ [] }) [] ≡ None
nothing_is_missing = refl

a_part_is_missing : why_not_created office (record unit { input = input (codes "a") true ∷ input (codes "b") false ∷ input (codes "c") false ∷ [] }) [] ≡ Some (PartRefused (codes "b"))
a_part_is_missing = refl

-- one that is given isn't missing, but it may be of another kind
another_kind : why_not_created office (record unit { input = input (codes "a") false ∷ input (codes "b") false ∷ [] }) ((codes "a", scalar.Int (pos 7)) ∷ (codes "b", scalar.Truth true) ∷ []) ≡ Some (PartRefused (codes "b"))
another_kind = refl

-- the parts are looked at in their order
in_their_order : why_not_created office (record unit { input = input (codes "b") false ∷ input (codes "a") false ∷ [] }) ((codes "a", scalar.Truth true) ∷ []) ≡ Some (PartRefused (codes "b"))
in_their_order = refl

-- a name of no part is told first
no_such_part : why_not_created office (record unit { input = input (codes "a") false ∷ [] }) ((codes "z", scalar.Int (pos 7)) ∷ []) ≡ Some (PartRefused (codes "z"))
no_such_part = refl

-- an output may be missing
no_output_is_asked : why_not_created office (record unit { output = input (codes "a") false ∷ [] }) [] ≡ None
no_output_is_asked = refl

-- tasks with sub tasks, with a finish and without an owner are created
a_composite_task : why_not_created office (record unit { subs = sub_entry (codes "x") (codes "solo") [] ∷ []; finishes = record { when = None; settings = [] } ∷ []; owner_required = false }) [] ≡ None
a_composite_task = refl

a_task_with_a_deadline : why_not_created office (record unit { deadlines = record { name = codes "one"; kind = Start; period = Some 1000; at = None; part = None; escalations = [] } ∷ [] }) [] ≡ None
a_task_with_a_deadline = refl

-- ---- commands before which nothing is due

own_record : (moment : ℕ) (left : Option Record) → left ≡ left_with moment 0 left
own_record moment None = refl
own_record moment (Some record_left) = refl

pub at_once : {t : TablesOf} {moment : ℕ} {Does : Doing} {left : Option Record} {answer : Answer} (u : TablesOf) → first_due t moment ≡ None → Does t left answer u → Behind t moment Does left (reply_of answer) (kept_at left u)
at_once {t} {moment} {Does} {left} {answer} u none does = record {
  turned = t;
  dues = [];
  turn = record { takings = Takings.end; ended = none };
  taken = refl;
  own = left;
  acted = u;
  does = does;
  left_is = own_record moment left;
  after_is = refl;
}

-- ---- a create

abbrev pub ready : Row
ready = record (task_of unit 0) { state = Ready }

abbrev one_task : TablesOf
one_task = record nothing_yet { rows = ready ∷ []; last = 1000 }

-- dan creates a task of the first model
a_create : Decides nothing_yet (asks (codes "dan") 1000 0 (Create None [] None)) (kept (codes "dan") 1000 0 (Create None [] None)) (reply_of (Done (record { 0 = 1 }) Ready None)) one_task
a_create = at_once (record nothing_yet { rows = ready ∷ [] }) refl (
    record {
      sending = New 3;
      sent = refl;
      asks = (
        accepted (record nothing_yet { rows = ready ∷ [] }) 1,
        (refl, 0, unit, refl, refl, refl, on refl end),
        (reply.Done (record { 0 = 1 }) Ready None, (ready, refl, refl), refl, refl, refl),
      );
    }
    )

-- a task that waits isn't activated yet, and a moment that has come is none to wait for
abbrev pub waiting : Row
waiting = new_row nothing_yet unit 0 None 3 [] (Some (record { 0 = 5000 })) (record { 0 = 1000 })

abbrev later : Command
later = Create None [] (Some (record { 0 = 5000 }))

a_task_that_waits : Decides nothing_yet (asks (codes "dan") 1000 0 later) (kept (codes "dan") 1000 0 later) (reply_of (Done (record { 0 = 1 }) Created None)) (record nothing_yet { rows = waiting ∷ []; last = 1000 })
a_task_that_waits = at_once (record nothing_yet { rows = waiting ∷ [] }) refl (
    record {
      sending = New 3;
      sent = refl;
      asks = (
        accepted (record nothing_yet { rows = waiting ∷ [] }) 1,
        (refl, 0, unit, refl, refl, refl, refl),
        (reply.Done (record { 0 = 1 }) Created None, (waiting, refl, refl), refl, refl, refl),
      );
    }
    )

at_its_moment : waits_until 5000 (Some (record { 0 = 5000 })) ≡ None
at_its_moment = refl

no_such_model : Decides one_task (asks (codes "dan") 2000 0 (Create (Some (codes "sole")) [] None)) None (reply_of (Refused (Unknown (Model (codes "sole"))))) one_task
no_such_model = at_once one_task refl (record { sending = New 3; sent = refl; asks = (refused (Unknown (Model (codes "sole"))), refl, ((refl, refl), refl)) })

-- a stranger changes nothing, not even the last moment
a_stranger : Decides one_task (asks (codes "eve") 5000 0 (Create None [] None)) None (reply_of (Refused Person)) one_task
a_stranger = at_once one_task refl (record { sending = sending.Refused Person; sent = refl; asks = ((refl, refl), refl) })

-- ---- a claim

abbrev pub claimed : Row
claimed = record (task_of unit 0) { state = Reserved; owner = Some 0 }

abbrev claimed_at : ℕ → TablesOf
claimed_at moment = record nothing_yet { rows = claimed ∷ []; last = moment }

-- anna has it
abbrev pub annas : Kept
annas = reply.Done (record { 0 = 1 }) Reserved (Some (codes "anna"))

a_claim : Decides one_task (asks (codes "anna") 2000 1 Claim) (kept (codes "anna") 2000 1 Claim) (reply_of (Done (record { 0 = 1 }) Reserved (Some (codes "anna")))) (claimed_at 2000)
a_claim = at_once (claimed_at 1000) refl (record { sending = New 0; sent = refl; asks = (accepted (claimed_at 1000) 1, (one_task, refl, (ready, unit, refl, refl, (refl, refl))), (annas, (claimed, refl, refl), refl, refl, refl)) })

-- an event acts never before the last record, and is kept as of then
an_earlier_moment : Decides one_task (asks (codes "anna") 10 1 Claim) (kept (codes "anna") 1000 1 Claim) (reply_of (Done (record { 0 = 1 }) Reserved (Some (codes "anna")))) (claimed_at 1000)
an_earlier_moment = at_once (claimed_at 1000) refl (record { sending = New 0; sent = refl; asks = (accepted (claimed_at 1000) 1, (one_task, refl, (ready, unit, refl, refl, (refl, refl))), (annas, (claimed, refl, refl), refl, refl, refl)) })

a_second_claim : gate (claimed_at 2000) op.Claim 1 1 ≡ shuts (State (states_of (Ready ∷ [])) Reserved)
a_second_claim = refl

-- the role is tested before the state: dan created it, and root operates the server
the_initiator_claims : gate (claimed_at 2000) op.Claim 3 1 ≡ shuts (Role (roles_of (PotentialOwner ∷ [])))
the_initiator_claims = refl

the_operator_claims : gate (claimed_at 2000) op.Claim 4 1 ≡ shuts (Role (roles_of (PotentialOwner ∷ [])))
the_operator_claims = refl

-- and the task before both
no_such_task : gate one_task op.Claim 4 2 ≡ shuts (Task (record { 0 = 2 }))
no_such_task = refl

-- and the person before the task
neither : Decides one_task (asks (codes "eve") 2000 2 Claim) None (reply_of (Refused Person)) one_task
neither = at_once one_task refl (record { sending = sending.Refused Person; sent = refl; asks = ((refl, refl), refl) })

-- ---- a command that is sent again

-- anna's device 1 has claimed task 1 as its command 5
abbrev of_device : ℕ → ℕ → Option Retry
of_device device number = Some (record { device = device; number = number })

abbrev pub fifth : Slot
fifth = record { person = 0; device = 1; number = 5; op = op.Claim; task = record { 0 = 1 }; kept = annas }

abbrev claimed_once : TablesOf
claimed_once = record (claimed_at 2000) { slots = fifth ∷ [] }

abbrev pub claims_at : ℕ → ℕ → ℕ → ℕ → Event
claims_at moment device number task = Ask (record { 0 = moment }) (codes "anna") (of_device device number) (record { 0 = task }) Claim

abbrev claims : ℕ → ℕ → ℕ → Event
claims device number task = claims_at 2000 device number task

a_numbered_claim : Decides one_task (claims 1 5 1) (Some (Asked (record { 0 = 2000 }) (codes "anna") (of_device 1 5) (record { 0 = 1 }) Claim)) (reply_of (Done (record { 0 = 1 }) Reserved (Some (codes "anna")))) claimed_once
a_numbered_claim = at_once (record (claimed_at 1000) { slots = fifth ∷ [] }) refl (record { sending = New 0; sent = refl; asks = (accepted (claimed_at 1000) 1, (one_task, refl, (ready, unit, refl, refl, (refl, refl))), (annas, (claimed, refl, refl), refl, refl, refl)) })

-- It is answered as before, though the task is reserved now, and leaves nothing.
sent_again : Decides claimed_once (claims 1 5 1) None (reply_of (Done (record { 0 = 1 }) Reserved (Some (codes "anna")))) claimed_once
sent_again = at_once claimed_once refl (record { sending = Answered annas; sent = (refl, refl, refl, refl); asks = ((refl, refl), refl) })

an_earlier_number : Decides claimed_once (claims 1 4 1) None (reply_of (Refused (NumberStale 5))) claimed_once
an_earlier_number = at_once claimed_once refl (record { sending = sending.Refused (NumberStale 5); sent = inl (omega arith, refl); asks = ((refl, refl), refl) })

-- also of a task that isn't there
another_task : Decides claimed_once (claims 1 5 2) None (reply_of (Refused (NumberReused 5))) claimed_once
another_task = at_once claimed_once refl (record { sending = sending.Refused (NumberReused 5); sent = inr (refl, (λ same. let e : 1 ≡ 2 = ap (λ (task : TaskId). task.0) same.1 in omega arith), refl); asks = ((refl, refl), refl) })

-- another device, and another person's device of the same number, begin anew
another_device : IsSent claimed_once (codes "anna") (of_device 2 5) op.Claim (record { 0 = 1 }) (New 0)
another_device = refl

another_person : IsSent claimed_once (codes "ben") (of_device 1 5) op.Claim (record { 0 = 1 }) (New 1)
another_person = refl

-- ---- a comment

-- which acts as of the last record, and has that moment
abbrev commented : Row
commented = record claimed { comments = record { moment = record { 0 = 2000 }; person = 3; text = codes "why" } ∷ [] }

abbrev commented_at : ℕ → TablesOf
commented_at moment = record nothing_yet { rows = commented ∷ []; last = moment }

a_comment : Decides (claimed_at 2000) (asks (codes "dan") 10 1 (AddComment (codes "why"))) (kept (codes "dan") 2000 1 (AddComment (codes "why"))) (reply_of (Done (record { 0 = 1 }) Reserved (Some (codes "anna")))) (commented_at 2000)
a_comment = at_once (commented_at 2000) refl (record { sending = New 3; sent = refl; asks = (accepted (commented_at 2000) 1, (claimed_at 2000, refl, (claimed, unit, refl, refl, (refl, refl))), (annas, (commented, refl, refl), refl, refl, refl)) })

its_comments : (sheet_of (commented_at 2000) commented).comments ≡ record { moment = record { 0 = 2000 }; person = codes "dan"; text = codes "why" } ∷ []
its_comments = refl

-- ---- an end

-- its owner was anna, and nobody owns it any more
abbrev exited : Row
exited = record claimed { state = Exited; owner = None; last_owner = Some 0 }

abbrev exited_at : ℕ → TablesOf
exited_at moment = record nothing_yet { rows = exited ∷ []; last = moment }

an_exit : Decides (claimed_at 2000) (asks (codes "root") 3000 1 Exit) (kept (codes "root") 3000 1 Exit) (reply_of (Done (record { 0 = 1 }) Exited None)) (exited_at 3000)
an_exit = at_once (exited_at 2000) refl (record { sending = New 4; sent = refl; asks = (accepted (exited_at 2000) 1, (claimed_at 2000, refl, (claimed, unit, refl, refl, (on refl end, refl))), (reply.Done (record { 0 = 1 }) Exited None, (exited, refl, refl), refl, refl, refl)) })

-- all states that are not final are told
a_second_exit : gate (exited_at 3000) op.Exit 4 1 ≡ shuts (State (states_of (Created ∷ Ready ∷ Reserved ∷ InProgress ∷ SuspendedReady ∷ SuspendedReserved ∷ SuspendedInProgress ∷ [])) Exited)
a_second_exit = refl

-- a task that waits, and one that is suspended up to a moment
no_moments : closed Obsolete (record claimed { waits = Some (record { 0 = 5 }); until = Some (record { 0 = 6 }) }) ≡ record exited { state = Obsolete }
no_moments = refl

-- ---- a sheet

shown : (sheet_of (claimed_at 2000) claimed).potential_owners ≡ codes "anna" ∷ codes "ben" ∷ []
shown = refl

its_model : (sheet_of (claimed_at 2000) claimed).model ≡ codes "unit"
its_model = refl

not_shown : Decides (claimed_at 2000) (Read (codes "root") (query.Sheet (record { 0 = 1 }))) None (reply_of (Refused (Role (needed op.Get)))) (claimed_at 2000)
not_shown = ((refl, refl), refl)

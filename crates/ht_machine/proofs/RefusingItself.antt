-- What the machine refuses a command or a read for is its own.
use Rattle.std.proofs.Common.{◌≡◌, ℕ, Bool, true, false, not, ◌&&◌, ◌==◌, nat_lt, List, [], ◌∷◌, ◌++◌, length, Option, None, Some, is_none, find, option_map, inl, inr, refl, sym, ap, subst, ◌∙◌}
use Rattle.std.specs.Option.{option_and_then, option_map_or}
use Rattle.std.specs.Prelude.{is_some, if◌then◌else◌}
use Rattle.ht_base.specs.declared.event.Command.{Command}
use Rattle.ht_base.specs.declared.event.Command.TheVariants as command
use Rattle.ht_base.specs.declared.event.Event.{Event}
use Rattle.ht_base.specs.declared.event.Event.TheVariants.{Ask, Read, Turn}
use Rattle.ht_base.specs.declared.query.Query.{Query}
use Rattle.ht_base.specs.declared.query.Query.TheVariants as query
use Rattle.ht_base.specs.declared.moment.Moment.{Moment}
use Rattle.ht_base.specs.declared.operation.Op.{Op}
use Rattle.ht_base.specs.declared.operation.Op.TheVariants as op
use Rattle.ht_base.specs.declared.parts.Parts.{Parts}
use Rattle.ht_base.specs.declared.limits.TheConstants.{MOST_COMMENTS}
use Rattle.ht_base.specs.declared.record.Record.{Record}
use Rattle.ht_base.specs.declared.record.Record.TheVariants as records
use Rattle.ht_base.specs.declared.reply.Answer.{Answer}
use Rattle.ht_base.specs.declared.reply.Answer.TheVariants as answers
use Rattle.ht_base.specs.declared.reply.Limit.TheVariants.{Comments, Tasks}
use Rattle.ht_base.specs.declared.reply.Refusal.{Refusal}
use Rattle.ht_base.specs.declared.reply.Refusal.TheVariants as refusal
use Rattle.ht_base.specs.declared.reply.Reply.{Reply}
use Rattle.ht_base.specs.declared.reply.Unknown.TheVariants as unknown
use Rattle.ht_base.specs.declared.retry.Retry.{Retry}
use Rattle.ht_base.specs.declared.role_list.RoleList.{RoleList}
use Rattle.ht_base.specs.declared.role_list.RoleList.TheVariants as list
use Rattle.ht_base.specs.declared.task_id.TaskId.{TaskId}
use Rattle.ht_base.specs.Events.{op_of}
use Rattle.ht_compose.specs.ByHand.{entry_of}
use Rattle.ht_machine.specs.declared.sending.Sending.{Sending}
use Rattle.ht_machine.specs.declared.sending.Sending.TheVariants as sending
use Rattle.ht_machine.specs.declared.sending.Sending.TheVariants.{New, Answered}
use Rattle.ht_machine.specs.Commands.{Comes, accepted, refused, limit_at, place_named, refused_input, too_many, unknown_model, why_not_created}
use Rattle.ht_machine.specs.Deciding.{Asks, AsksAs, Decides, effective, sheet_behind, shown_to}
use Rattle.ht_machine.specs.Gate.{Gate, gate, gate_at, judged, opens, shuts}
use Rattle.ht_machine.specs.Itself.{AnswersItself, is_its_own}
use Rattle.ht_machine.specs.Refusals.{ComesOf, no_entry, of_task, refusals, row_refusals, why_shut}
use Rattle.ht_machine.specs.Sending.{ByCaller, ByLast, BySlot, IsSent, answer_of}
use Rattle.ht_machine.proofs.Refusing.{in_order}
use Rattle.ht_models.specs.Model.{ModelOf}
use Rattle.ht_owner.specs.Effects.{prepared}
use Rattle.ht_finding.specs.Giving.{refused_part}
use Rattle.ht_owner.specs.Faults.{excluded, faults, first_of, is_among, is_owner, is_unset, may_delegate, no_output, not_delegatee, output_refused, owner_named, ownerless, role_faults, told, unknown_person}
use Rattle.ht_owner.specs.Suspending.{end_at}
use Rattle.ht_people.specs.Directory as people
use Rattle.ht_people.specs.Directory.{DirectoryOf}
use Rattle.ht_rules.specs.declared.judging.Verdict.{Verdict}
use Rattle.ht_rules.specs.declared.judging.Verdict.TheVariants.{Yes, NeedsRole, WrongState}
use Rattle.ht_rules.specs.Judging.{verdict}
use Rattle.ht_tree.specs.declared.row.Row.{Row}
use Rattle.ht_tree.specs.declared.slot.Kept.{Kept}
use Rattle.ht_tree.specs.declared.slot.Kept.TheVariants.{Done}
use Rattle.ht_tree.specs.declared.slot.Slot.{Slot}
use Rattle.ht_tree.specs.Creating.{is_full}
use Rattle.ht_tree.specs.Roles.{roles_in}
use Rattle.ht_tree.specs.Tables.{TablesOf, device_slot, directory, model_at, model_named, model_of, potential_owners_of, task_row}

-- ---- refusals that may come

abbrev Own : Option Refusal → Type 0
Own None = Unit {0}
Own (Some why) = is_its_own why ≡ true

abbrev AllOwn : List (Option Refusal) → Type 0
AllOwn [] = Unit {0}
AllOwn (o ∷ os) = Own o × AllOwn os

first_own : (os : List (Option Refusal)) → AllOwn os → Own (first_of os)
first_own [] all = tt
first_own (None ∷ os) all = first_own os all.1
first_own (Some why ∷ os) all = all.0

both_own : (xs ys : List (Option Refusal)) → AllOwn xs → AllOwn ys → AllOwn (xs ++ ys)
both_own [] ys none all = all
both_own (x ∷ xs) ys some all = (some.0, both_own xs ys some.1 all)

where_own : (b : Bool) (why : Refusal) → is_its_own why ≡ true → Own (if b then Some why else None)
where_own true why is = is
where_own false why is = tt

unless_own : (b : Bool) (why : Refusal) → is_its_own why ≡ true → Own (if b then None else Some why)
unless_own true why is = tt
unless_own false why is = is

map_own : {A : Type 0} (f : A → Refusal) → ((a : A) → is_its_own (f a) ≡ true) → (o : Option A) → Own (option_map f o)
map_own f each None = tt
map_own f each (Some a) = each a

then_own : {A : Type 0} (f : A → Option Refusal) → ((a : A) → Own (f a)) → (o : Option A) → Own (option_and_then f o)
then_own f each None = tt
then_own f each (Some a) = each a

or_own : {A : Type 0} (f : A → Option Refusal) → ((a : A) → Own (f a)) → (o : Option A) → Own (option_map_or f o None)
or_own f each None = tt
or_own f each (Some a) = each a

-- ---- of an operation

person_own : (d : DirectoryOf) (names : List (List ℕ)) → Own (unknown_person d names)
person_own d names = map_own (λ name. refusal.Unknown (unknown.Person name)) (λ name. refl) (find (λ name. is_none (people.find name d)) names)

excluded_own : (d : DirectoryOf) (persons : List ℕ) (names : List (List ℕ)) → Own (excluded d persons names)
excluded_own d persons names = map_own refusal.Excluded (λ name. refl) (find (is_among d persons) names)

owner_own : (d : DirectoryOf) (owner : Option ℕ) (names : List (List ℕ)) → Own (owner_named d owner names)
owner_own d owner names = map_own refusal.Excluded (λ name. refl) (find (is_owner d owner) names)

delegatee_own : (u : TablesOf) (m : ModelOf) (row : Row) (name : List ℕ) → Own (not_delegatee u m row name)
delegatee_own u m row name = or_own (λ p. told (not (may_delegate u m row p m.delegation)) (refusal.NotDelegatee name)) (λ p. where_own (not (may_delegate u m row p m.delegation)) (refusal.NotDelegatee name) refl) (people.find name (directory u))

output_own : (d : DirectoryOf) (m : ModelOf) (output : Parts) → Own (output_refused d m output)
output_own d m output = map_own refusal.PartRefused (λ name. refl) (refused_part d false m.output output)

ownerless_own : (m : ModelOf) → Own (ownerless m)
ownerless_own m = where_own (not m.owner_required) refusal.Ownerless refl

role_own : (d : DirectoryOf) (m : ModelOf) (row : Row) (names : List (List ℕ)) (role : RoleList) → AllOwn (role_faults d m row names role)
role_own d m row names list.PotentialOwners = (ownerless_own m, (person_own d names, (excluded_own d row.excluded_owners names, tt)))
role_own d m row names list.ExcludedOwners = (person_own d names, (owner_own d row.owner names, tt))
role_own d m row names list.Administrators = (person_own d names, tt)
role_own d m row names list.Stakeholders = (person_own d names, tt)

faults_own : (u : TablesOf) (m : ModelOf) (at : Moment) (row : Row) (c : Command) → AllOwn (faults u m at row c)
faults_own u m at row (command.Create model input activate_at) = tt
faults_own u m at row command.Claim = tt
faults_own u m at row command.Start = tt
faults_own u m at row command.Stop = (ownerless_own m, tt)
faults_own u m at row command.Release = (ownerless_own m, tt)
faults_own u m at row (command.Delegate name) = (ownerless_own m, (person_own (directory u) (name ∷ []), (excluded_own (directory u) row.excluded_owners (name ∷ []), (delegatee_own u m row name, tt))))
faults_own u m at row (command.Forward names) = (ownerless_own m, (where_own row.by_group refusal.ByGroup refl, (person_own (directory u) names, (excluded_own (directory u) row.excluded_owners names, tt))))
faults_own u m at row (command.Nominate names) = (ownerless_own m, (person_own (directory u) names, (excluded_own (directory u) row.excluded_owners names, tt)))
faults_own u m at row command.Activate = (where_own (m.owner_required && (length (potential_owners_of u row) == 0)) refusal.NoOwners refl, tt)
faults_own u m at row (command.SetRole role names) = role_own (directory u) m row names role
faults_own u m at row (command.SetPriority priority) = tt
faults_own u m at row command.Suspend = tt
faults_own u m at row (command.SuspendUntil end) = (where_own (not (nat_lt at.0 (end_at at end).0)) refusal.UntilPast refl, tt)
faults_own u m at row command.Resume = tt
faults_own u m at row (command.SetOutput output) = (output_own (directory u) m output, tt)
faults_own u m at row (command.Complete output) = (output_own (directory u) m output, tt)
faults_own u m at row (command.Fail name) = tt
faults_own u m at row command.Skip = (where_own (not m.skipable) refusal.NotSkipable refl, tt)
faults_own u m at row command.Exit = tt
faults_own u m at row command.Error = tt
faults_own u m at row (command.AddComment text) = (where_own (not (nat_lt (length row.comments) MOST_COMMENTS)) (refusal.Limit Comments) refl, tt)
faults_own u m at row (command.InstantiateSubTask sub) = tt

no_output_own : (m : ModelOf) (row : Row) (c : Command) → Own (no_output m row c)
no_output_own m row (command.Complete output) = map_own (λ p. refusal.NoOutput p.name) (λ p. refl) (find (is_unset row.output) m.output)
no_output_own m row c = tt

-- ---- of a command, in the order of the list

judged_own : (v : Verdict) (row : Row) → Own (why_shut (judged v row))
judged_own Yes row = tt
judged_own (NeedsRole needs) row = refl
judged_own (WrongState allowed) row = refl

gate_own : (u : TablesOf) (o : Op) (person task : ℕ) (row : Option Row) → Own (why_shut (gate_at u o person task row))
gate_own u o person task None = refl
gate_own u o person task (Some row) = judged_own (verdict o row.state (roles_in u row person)) row

model_own : (u : TablesOf) (name : Option (List ℕ)) → Own (unknown_model u name)
model_own u None = tt
model_own u (Some name) = unless_own (is_some (model_named u name)) (refusal.Unknown (unknown.Model name)) refl

input_own : (u : TablesOf) (name : Option (List ℕ)) (input : Parts) → Own (refused_input u name input)
input_own u name input = then_own (λ m. why_not_created (directory u) m input) (λ m. map_own refusal.PartRefused (λ x. refl) (refused_part (directory u) true m.input input)) (option_and_then (model_at u) (place_named u name))

many_own : (u : TablesOf) (name : Option (List ℕ)) → Own (too_many u name)
many_own u name = then_own (limit_at u) (λ place. where_own (is_full u place) (refusal.Limit Tasks) refl) (place_named u name)

module _ (u v : TablesOf) (caller : ℕ) (at : Moment) (task : ℕ) where
  of_task_own : (w : TablesOf) (why : Row → ModelOf → List (Option Refusal)) → ((row : Row) (m : ModelOf) → AllOwn (why row m)) → AllOwn (of_task w task why)
  of_task_own w why each = row_own (task_row w task)
    where
      of_model : (row : Row) (m : Option ModelOf) → AllOwn (option_map_or (why row) m [])
      of_model row None = tt
      of_model row (Some m) = each row m

      row_own : (row : Option Row) → AllOwn (option_map_or (λ r. option_map_or (why r) (model_of w r) []) row [])
      row_own None = tt
      row_own (Some row) = of_model row (model_of w row)

  plain : (c : Command) → AllOwn (why_shut (gate u (op_of c) caller task) ∷ of_task v task (row_refusals v caller at c))
  plain c = (
    gate_own u (op_of c) caller task (task_row u task),
    of_task_own v (row_refusals v caller at c) (λ row m. both_own (faults v m at row c) (no_output m (prepared (directory v) m caller at c row) c ∷ []) (faults_own v m at row c) (no_output_own m (prepared (directory v) m caller at c row) c, tt)),
  )

  refusals_own : (c : Command) → AllOwn (refusals u v caller at task c)
  refusals_own (command.Create name input activate_at) = (model_own u name, (input_own u name input, (many_own u name, tt)))
  refusals_own (command.InstantiateSubTask name) = (
    gate_own u op.InstantiateSubTask caller task (task_row u task),
    of_task_own u (no_entry u task name) (λ row m. (unless_own (is_some (entry_of u.rows m task name)) (refusal.SubRefused name) refl, tt)),
  )
  refusals_own c = plain c

comes_own : (o : Option Refusal) → Own o → (why : Refusal) → ComesOf o (refused why) → is_its_own why ≡ true
comes_own None own why is = absurd is
comes_own (Some other) own why is = ap is_its_own is ∙ own

refused_own : (u : TablesOf) (caller moment task : ℕ) (c : Command) (why : Refusal) → Comes u caller moment task c (refused why) → is_its_own why ≡ true
refused_own u caller moment task c why comes =
    let w = in_order u caller moment task c (refused why) comes in
    comes_own (first_of (refusals u w.0 caller (record { 0 = moment }) task c)) (first_own (refusals u w.0 caller (record { 0 = moment }) task c) (refusals_own u w.0 caller (record { 0 = moment }) task c)) why w.2

-- ---- of an event

by_last : (person number : ℕ) (o : Op) (task : TaskId) (last : Slot) (why : Refusal) → ByLast person number o task last (sending.Refused why) → is_its_own why ≡ true
by_last person number o task last why (inl (less, is)) = ap is_its_own is
by_last person number o task last why (inr (same, other, is)) = ap is_its_own is

not_new : (person : ℕ) (why : Refusal) → sending.Refused why ≡ New person → ⊥
not_new person why e = cc

sent_own : (t : TablesOf) (o : Op) (task : TaskId) (retry : Option Retry) (person : Option ℕ) (why : Refusal) → ByCaller t o task retry person (sending.Refused why) → is_its_own why ≡ true
sent_own t o task retry None why is = let e : why ≡ refusal.Person = cc in ap is_its_own e
sent_own t o task None (Some person) why is = absurd (not_new person why is)
sent_own t o task (Some r) (Some person) why is = by_slot (device_slot t person r.device) is
  where
    by_slot : (slot : Option Slot) → BySlot person r.number o task slot (sending.Refused why) → is_its_own why ≡ true
    by_slot None e = absurd (not_new person why e)
    by_slot (Some last) e = by_last person r.number o task last why e

itself : (answer : Answer) (why : Refusal) → is_its_own why ≡ true → answer ≡ answers.Refused why → AnswersItself answer
itself answer why own is = let A : Answer → Type 0 = λ x. AnswersItself x in subst A (sym is) own

kept_itself : (answer : Answer) (reply : Kept) → answer ≡ answer_of reply → AnswersItself answer
kept_itself answer (Done task state owner) is = let A : Answer → Type 0 = λ x. AnswersItself x in subst A (sym is) tt

asks_itself : (t : TablesOf) (moment : ℕ) (caller : List ℕ) (retry : Option Retry) (task : TaskId) (c : Command) (left : Option Record) (answer : Answer) (after : TablesOf) → Asks t moment caller retry task c left answer after → AnswersItself answer
asks_itself t moment caller retry task c left answer after a = go a.sending a.sent a.asks
  where
    go : (s : Sending) → IsSent t caller retry (op_of c) task s → AsksAs t moment retry task c (records.Asked (record { 0 = moment }) caller retry task c) s left answer after → AnswersItself answer
    go (New person) sent (accepted v about, comes, settles) = kept_itself answer settles.0 settles.4
    go (New person) sent (refused why, comes, settles) = itself answer why (refused_own t person moment task.0 c why comes) settles.1
    go (Answered reply) sent as_is = kept_itself answer reply as_is.1
    go (sending.Refused why) sent as_is = itself answer why (sent_own t (op_of c) task retry (people.find caller (directory t)) why sent) as_is.1

sheet_itself : (t : TablesOf) (g : Gate) → Own (why_shut g) → AnswersItself (sheet_behind t g)
sheet_itself t (opens row) own = tt
sheet_itself t (shuts why) own = own

shown_itself : (t : TablesOf) (what : Query) (person : Option ℕ) → AnswersItself (shown_to t what person)
shown_itself t what None = refl
shown_itself t (query.Sheet task) (Some person) = sheet_itself t (gate t op.Get person task.0) (gate_own t op.Get person task.0 (task_row t task.0))
shown_itself t (query.Tasks role which from count) (Some person) = tt
shown_itself t (query.Notices from count) (Some person) = tt

pub answers_itself : (t : TablesOf) (e : Event) (left : Option Record) (reply : Reply) (after : TablesOf) → Decides t e left reply after → AnswersItself reply.answer
answers_itself t (Turn at) left reply after d = let A : Answer → Type 0 = λ x. AnswersItself x in subst A (sym d.does.1) tt
answers_itself t (Ask at caller retry task c) left reply after d = asks_itself d.turned (effective t at.0) caller retry task c d.own reply.answer d.acted d.does
answers_itself t (Read caller what) left reply after d = let R : Reply → Type 0 = λ x. AnswersItself x.answer in subst R (sym d.1) (shown_itself t what (people.find caller (directory t)))

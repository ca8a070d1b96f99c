-- What the last command of a device says of one that is sent again.
use Rattle.std.proofs.Common.{◌≡◌, ◌⊎◌, ◌<◌, ℕ, zero, suc, List, [], ◌∷◌, length, Option, None, Some, refl, ap, sym, subst, ◌∙◌, inl, inr, arith}
use Rattle.std.proofs.lemmas.Bool.{cases_eq}
use Rattle.ht_base.specs.declared.event.Command.{Command}
use Rattle.ht_base.specs.declared.event.Command.TheVariants as command
use Rattle.ht_base.specs.declared.event.Event.{Event}
use Rattle.ht_base.specs.declared.event.Event.TheVariants.{Ask, Read, Turn}
use Rattle.ht_base.specs.declared.operation.Op.{Op}
use Rattle.ht_base.specs.declared.record.Record.{Record}
use Rattle.ht_base.specs.declared.record.Record.TheVariants.{Asked}
use Rattle.ht_base.specs.declared.reply.Answer.{Answer}
use Rattle.ht_base.specs.declared.reply.Answer.TheVariants.{Refused}
use Rattle.ht_base.specs.declared.moment.Moment.{Moment}
use Rattle.ht_base.specs.declared.reply.Reply.{Reply}
use Rattle.ht_base.specs.declared.reply.Refusal.TheVariants as refusal
use Rattle.ht_base.specs.declared.retry.Retry.{Retry}
use Rattle.ht_base.specs.declared.task_id.TaskId.{TaskId}
use Rattle.ht_base.specs.Events.{op_of}
use Rattle.ht_base.specs.Ordered.{AscendBy}
use Rattle.ht_machine.specs.declared.sending.Sending.{Sending}
use Rattle.ht_machine.specs.declared.sending.Sending.TheVariants as sending
use Rattle.ht_machine.specs.declared.sending.Sending.TheVariants.{New, Answered}
use Rattle.ht_machine.specs.Commands.{ActivatesUnless, ActsOn, AfterEffect, BehindGate, Comes, DoesOn, GathersFirst, HasEffect, MakesEntry, Consequence, accepted, new_task, refused, waits_until}
use Rattle.ht_machine.specs.Deciding.{Asks, AsksAs, Behind, Decides, Doing, IsIdle, Rests, Settles, effective, kept_at, left_with}
use Rattle.ht_machine.specs.Gate.{Gate, gate, opens, shuts}
use Rattle.ht_machine.specs.History.{History, IsHistory, IsStep}
use Rattle.ht_machine.specs.Once.{ActsOnce, IsAccepted, IsLast, IsOf, IsRepeat, IsSame, IsSince, IsTurnAlone, Remembers}
use Rattle.ht_machine.proofs.OneTurn.{KeepsOthers, turn_keeps}
use Rattle.ht_machine.specs.Sending.{ByCaller, ByLast, ByNumber, BySlot, IsSent, answer_of, slot_of, with_reply}
use Rattle.ht_compose.proofs.PublicLaws.{ends_rows, gathers_rows}
use Rattle.ht_compose.specs.Agenda.{Ends}
use Rattle.ht_compose.specs.Downward.{freeing}
use Rattle.ht_compose.specs.Freeing.{checks_of}
use Rattle.ht_compose.specs.Items as items
use Rattle.ht_compose.specs.Items.Item.{Activate, Begin, Close, Make}
use Rattle.ht_owner.specs.declared.follow.Follow.TheVariants as follow
use Rattle.ht_owner.specs.declared.follow.Follow.TheVariants.{Began, Freed, Held, Nothing}
use Rattle.ht_owner.specs.Effects.{Effect, does, effect, refuses}
use Rattle.ht_people.specs.Directory.{find}
use Rattle.ht_tree.specs.declared.slot.Kept.{Kept}
use Rattle.ht_tree.specs.declared.slot.Slot.{Slot}
use Rattle.ht_tree.specs.Slots.{slot_cmp, slot_in, slots_with}
use Rattle.ht_tree.specs.Tables.{TablesOf, device_slot, directory, with_row, with_rows}
use Rattle.ht_tree.proofs.PublicLaws.{new_slot_found, other_slot_found, slot_is, slots_with_ascend}

-- ---- one event

module _ (t : TablesOf) (at : ℕ) (caller : List ℕ) (retry : Option Retry) (task : TaskId) (c : Command) where
  -- what is known of a command of this slot's device
  by_last : (s : Slot) (number : ℕ) (known : Sending) → IsLast t s → (find caller (directory t) ≡ Some s.person) × (retry ≡ Some (record { device = s.device; number = number })) → IsSent t caller retry (op_of c) task known → ByLast s.person number (op_of c) task s known
  by_last s number known last of sent =
      let C : Option ℕ → Type 0 = λ p. ByCaller t (op_of c) task retry p known in
      let N : Option Retry → Type 0 = λ r. ByNumber t s.person (op_of c) task r known in
      let S : Option Slot → Type 0 = λ o. BySlot s.person number (op_of c) task o known in
      subst S last (subst N of.1 (subst C of.0 sent))

  module _ (moment : ℕ) (asked : Record) (left : Option Record) (answer : Answer) (after : TablesOf) where
    pub again_of : (s : Slot) (known : Sending) → ByLast s.person s.number (op_of c) task s known → (s.op ≡ op_of c) × (s.task ≡ task) → AsksAs t moment retry task c asked known left answer after → IsIdle t left after × (answer ≡ answer_of s.kept)
    again_of s (New p) by same asks = let up = by.0 in absurd (omega arith)
    again_of s (Answered reply) by same asks = (asks.0, asks.1 ∙ ap answer_of by.3)
    again_of s (sending.Refused why) (inl by) same asks = let down = by.0 in absurd (omega arith)
    again_of s (sending.Refused why) (inr by) same asks = absurd (by.1 same)

    pub reused_of : (s : Slot) (known : Sending) → ByLast s.person s.number (op_of c) task s known → ((s.op ≡ op_of c) × (s.task ≡ task) → ⊥) → AsksAs t moment retry task c asked known left answer after → IsIdle t left after × (answer ≡ Refused (refusal.NumberReused s.number))
    reused_of s (New p) by differ asks = let up = by.0 in absurd (omega arith)
    reused_of s (Answered reply) by differ asks = absurd (differ (by.1, by.2))
    reused_of s (sending.Refused why) (inl by) differ asks = let down = by.0 in absurd (omega arith)
    reused_of s (sending.Refused why) (inr by) differ asks = (asks.0, asks.1 ∙ ap Refused by.2)

    pub stale_of : (s : Slot) (number : ℕ) (known : Sending) → number < s.number → ByLast s.person number (op_of c) task s known → AsksAs t moment retry task c asked known left answer after → IsIdle t left after × (answer ≡ Refused (refusal.NumberStale s.number))
    stale_of s number (New p) low by asks = let up = by.0 in absurd (omega arith)
    stale_of s number (Answered reply) low by asks = let e = by.0 in absurd (omega arith)
    stale_of s number (sending.Refused why) low (inl by) asks = (asks.0, asks.1 ∙ ap Refused by.1)
    stale_of s number (sending.Refused why) low (inr by) asks = let e = by.0 in absurd (omega arith)

-- on the tables that the turn leaves
record LedOnce (u : TablesOf) (e : Event) (own : Option Record) (answer : Answer) (acted : TablesOf) : Type 0 where
  again : (s : Slot) → IsLast u s → IsOf u s s.number e → IsSame s e → IsIdle u own acted × (answer ≡ answer_of s.kept)
  reused : (s : Slot) → IsLast u s → IsOf u s s.number e → (IsSame s e → ⊥) → IsIdle u own acted × (answer ≡ Refused (refusal.NumberReused s.number))
  stale : (s : Slot) (number : ℕ) → IsLast u s → number < s.number → IsOf u s number e → IsIdle u own acted × (answer ≡ Refused (refusal.NumberStale s.number))

led_once : (u : TablesOf) (moment : ℕ) (at : Moment) (caller : List ℕ) (retry : Option Retry) (task : TaskId) (c : Command) (own : Option Record) (answer : Answer) (acted : TablesOf) → Asks u moment caller retry task c own answer acted → LedOnce u (Ask at caller retry task c) own answer acted
led_once u moment at caller retry task c own answer acted asks =
    let asked = Asked (record { 0 = moment }) caller retry task c in
    let known = asks.sending in
    record {
      again = λ s last of same. again_of u moment caller retry task c moment asked own answer acted s known (by_last u moment caller retry task c s s.number known last of asks.sent) same asks.asks;
      reused = λ s last of differ. reused_of u moment caller retry task c moment asked own answer acted s known (by_last u moment caller retry task c s s.number known last of asks.sent) differ asks.asks;
      stale = λ s number last low of. stale_of u moment caller retry task c moment asked own answer acted s number known low (by_last u moment caller retry task c s number known last of asks.sent) asks.asks;
    }

-- what a turn keeps
slots_kept : (t u : TablesOf) → KeepsOthers t u → u.slots ≡ t.slots
slots_kept t u keeps = ap (λ (w : TablesOf). w.slots) keeps

last_kept : (t u : TablesOf) (s : Slot) → KeepsOthers t u → IsLast t s → IsLast u s
last_kept t u s keeps last = ap (λ (w : TablesOf). device_slot w s.person s.device) keeps ∙ last

of_kept : (t u : TablesOf) (s : Slot) (number : ℕ) (e : Event) → KeepsOthers t u → IsOf t s number e → IsOf u s number e
of_kept t u s number (Ask at caller retry task c) keeps of = (ap (λ (w : TablesOf). find caller (directory w)) keeps ∙ of.0, of.1)
of_kept t u s number (Turn at) keeps of = absurd of
of_kept t u s number (Read caller what) keeps of = absurd of

-- a command that does nothing itself
turn_alone : (t : TablesOf) (at : Moment) (caller : List ℕ) (retry : Option Retry) (task : TaskId) (c : Command) (left : Option Record) (reply : Reply) (after : TablesOf) → (d : Decides t (Ask at caller retry task c) left reply after) → IsIdle d.turned d.own d.acted → IsTurnAlone t (Ask at caller retry task c) left after
turn_alone t at caller retry task c left reply after d idle =
    let moment = effective t at.0 in
    record {
      turned = d.turned;
      dues = d.dues;
      turn = d.turn;
      left_is = d.left_is ∙ ap (λ (o : Option Record). left_with moment (length d.dues) o) idle.0;
      after_is = d.after_is ∙ ap (λ (w : TablesOf). kept_at left w) idle.1;
    }

pub acts_once : (t : TablesOf) (e : Event) (left : Option Record) (reply : Reply) (after : TablesOf) → Decides t e left reply after → ActsOnce t e left reply.answer after
acts_once t (Ask at caller retry task c) left reply after d =
    let moment = effective t at.0 in
    let keeps = turn_keeps moment t d.turned d.dues d.turn in
    let led = led_once d.turned moment at caller retry task c d.own reply.answer d.acted d.does in
    let e = Ask at caller retry task c in
    record {
      again = λ s last of same. let told = led.again s (last_kept t d.turned s keeps last) (of_kept t d.turned s s.number e keeps of) same in (turn_alone t at caller retry task c left reply after d told.0, told.1);
      reused = λ s last of differ. let told = led.reused s (last_kept t d.turned s keeps last) (of_kept t d.turned s s.number e keeps of) differ in (turn_alone t at caller retry task c left reply after d told.0, told.1);
      stale = λ s number last low of. let told = led.stale s number (last_kept t d.turned s keeps last) low (of_kept t d.turned s number e keeps of) in (turn_alone t at caller retry task c left reply after d told.0, told.1);
    }
acts_once t (Turn at) left reply after d = record {
  again = λ s last of same. absurd of;
  reused = λ s last of differ. absurd of;
  stale = λ s number last low of. absurd of;
}
acts_once t (Read caller what) left reply after d = record {
  again = λ s last of same. absurd of;
  reused = λ s last of differ. absurd of;
  stale = λ s number last low of. absurd of;
}

-- ---- what a command leaves of the slots

ends_keep : (at : Moment) (u v : TablesOf) (is : List items.Item) → Ends (items.Does at) u is v → v.slots ≡ u.slots
ends_keep at u v is ends = ap (λ (x : TablesOf). x.slots) (ends_rows at u v is ends)

new_keeps : (at : Moment) (waits : Option Moment) (task : ℕ) (u v : TablesOf) → ActivatesUnless at waits task u v → v.slots ≡ u.slots
new_keeps at None task u v is = ends_keep at u v (Activate task ∷ []) is
new_keeps at (Some m) task u v is = ap (λ (x : TablesOf). x.slots) is

effect_keeps : (u : TablesOf) (moment task : ℕ) (e : Effect) (v : TablesOf) (about : ℕ) → AfterEffect u moment task e (accepted v about) → v.slots ≡ u.slots
effect_keeps u moment task (does row Began) v about a = ends_keep (record { 0 = moment }) (with_row u row) v (Begin task ∷ []) a.0
effect_keeps u moment task (does row follow.Activate) v about a = ends_keep (record { 0 = moment }) (with_row u row) v (Activate task ∷ []) a.0
effect_keeps u moment task (does row Nothing) v about a = ap (λ (x : TablesOf). x.slots) a.0
effect_keeps u moment task (does row Held) v about a = ap (λ (x : TablesOf). x.slots) a.0
effect_keeps u moment task (does row Freed) v about a = ends_keep (record { 0 = moment }) (with_rows (with_row u row) (freeing task (with_row u row).rows)) v (checks_of task (with_row u row).rows) a.0
effect_keeps u moment task (does row (follow.Close end)) v about a = ends_keep (record { 0 = moment }) (with_row u row) v (Close task end ∷ []) a.0
effect_keeps u moment task (refuses why) v about a = absurd cc

gathered_keeps : (c : Command) (task : ℕ) (u v : TablesOf) → GathersFirst c task u v → v.slots ≡ u.slots
gathered_keeps (command.Complete output) task u v is = ap (λ (x : TablesOf). x.slots) (gathers_rows u task v is)
gathered_keeps c task u v is = ap (λ (x : TablesOf). x.slots) is

made_keeps : (u : TablesOf) (moment task : ℕ) (name : List ℕ) (found : Option ℕ) (v : TablesOf) (about : ℕ) → MakesEntry u moment task name found (accepted v about) → v.slots ≡ u.slots
made_keeps u moment task name None v about a = absurd cc
made_keeps u moment task name (Some entry) v about a = ends_keep (record { 0 = moment }) u v (Make task entry ∷ []) a.0

first_keeps : (u w : TablesOf) (caller moment task : ℕ) (c : Command) (v : TablesOf) (about : ℕ) → GathersFirst c task u w → HasEffect w caller moment task c (accepted v about) → v.slots ≡ u.slots
first_keeps u w caller moment task c v about first (row, m, there, of, a) =
    effect_keeps w moment task (effect w m caller (record { 0 = moment }) c row) v about a ∙ gathered_keeps c task u w first

on_keeps : (u : TablesOf) (caller moment task : ℕ) (c : Command) (v : TablesOf) (about : ℕ) → DoesOn u caller moment task c (accepted v about) → v.slots ≡ u.slots
on_keeps u caller moment task (command.InstantiateSubTask sub) v about a = made_keeps u moment task sub a.0 v about a.2
on_keeps u caller moment task c v about a = first_keeps u a.0 caller moment task c v about a.1 a.2

acts_keeps : (u : TablesOf) (caller moment task : ℕ) (c : Command) (v : TablesOf) (about : ℕ) → ActsOn u caller moment task c (accepted v about) → v.slots ≡ u.slots
acts_keeps u caller moment task c v about = at (gate u (op_of c) caller task)
  where
    at : (g : Gate) → BehindGate u caller moment task c g (accepted v about) → v.slots ≡ u.slots
    at (opens row) a = on_keeps u caller moment task c v about a
    at (shuts why) a = absurd cc

comes_keeps : (u : TablesOf) (caller moment task : ℕ) (c : Command) (v : TablesOf) (about : ℕ) → Comes u caller moment task c (accepted v about) → v.slots ≡ u.slots
comes_keeps u caller moment task (command.Create name input activate_at) v about (fine, place, m, at, of, number, act) =
    let waits = waits_until moment activate_at in
    new_keeps (record { 0 = moment }) waits about (with_row u (new_task u caller moment place input waits m)) v act
comes_keeps u caller moment task c v about comes = acts_keeps u caller moment task c v about comes

-- ---- from one state to the next

by_slots : (s : Slot) (t u : TablesOf) → u.slots ≡ t.slots → IsSince s t → IsSince s u
by_slots s t u same h = record {
  last = h.last;
  there = ap (λ (l : List Slot). slot_in s.person s.device l) same ∙ h.there;
  later = h.later;
  ordered = subst (AscendBy slot_cmp) (sym same) h.ordered;
}

-- the caller of a new command is a person
new_caller : (t : TablesOf) (op : Op) (task : TaskId) (retry : Option Retry) (k : Option ℕ) (person : ℕ) → ByCaller t op task retry k (New person) → k ≡ Some person
new_caller t op task retry None person by = absurd cc
new_caller t op task None (Some p) person by = let same : person ≡ p = cc in ap Some (sym same)
new_caller t op task (Some r) (Some p) person by = at (device_slot t p r.device) by
  where
    at : (last : Option Slot) → BySlot p r.number op task last (New person) → Some p ≡ Some person
    at None is = let same : person ≡ p = cc in ap Some (sym same)
    at (Some last) is = ap Some (sym is.1)

new_number : (t : TablesOf) (op : Op) (task : TaskId) (retry : Option Retry) (k : Option ℕ) (person : ℕ) → ByCaller t op task retry k (New person) → ByNumber t person op task retry (New person)
new_number t op task retry k person by =
    let C : Option ℕ → Type 0 = λ o. ByCaller t op task retry o (New person) in
    subst C (new_caller t op task retry k person by) by

-- a new command of a device has a later number than its last
module _ (t : TablesOf) (person : ℕ) (op : Op) (task : TaskId) (r : Retry) (reply : Kept) where
  later_than : (s : Slot) → IsSince s t → ByNumber t person op task (Some r) (New person) → (person ≡ s.person) × (r.device ≡ s.device) → s.number < r.number
  later_than s h new same = at h.later
    where
      last_before : (h.last).number < r.number
      last_before =
          let S : Option Slot → Type 0 = λ o. BySlot person r.number op task o (New person) in
          let D : ℕ → Type 0 = λ d. S (device_slot t person d) in
          let P : ℕ → Type 0 = λ p. S (device_slot t p s.device) in
          (subst S h.there (subst P same.0 (subst D same.1 new))).0

      at : (h.last ≡ s) ⊎ (s.number < (h.last).number) → s.number < r.number
      at (inl is) = let e = ap (λ (x : Slot). x.number) is in let up = last_before in omega arith
      at (inr up) = let low = last_before in omega arith

  -- with its reply the tables have the slot of each device
  with_new : (s : Slot) (u : TablesOf) → IsSince s t → ByNumber t person op task (Some r) (New person) → u.slots ≡ slots_with t.slots (slot_of person r op task reply) → IsSince s u
  with_new s u h new same = elim (cases_eq person s.person) [
    | inl p ↦ elim (cases_eq r.device s.device) [ inl d ↦ of_device p d | inr d ↦ of_another (λ e. d e.1) ]
    | inr p ↦ of_another (λ e. p e.0)
  ]
    where
      ordered : AscendBy slot_cmp u.slots
      ordered = subst (AscendBy slot_cmp) (sym same) (slots_with_ascend (slot_of person r op task reply) t.slots h.ordered)

      look : (p d : ℕ) → device_slot u p d ≡ slot_in p d (slots_with t.slots (slot_of person r op task reply))
      look p d = ap (λ (l : List Slot). slot_in p d l) same

      of_device : person ≡ s.person → r.device ≡ s.device → IsSince s u
      of_device p d =
          let D : ℕ → Type 0 = λ x. device_slot u person x ≡ Some (slot_of person r op task reply) in
          let P : ℕ → Type 0 = λ x. device_slot u x s.device ≡ Some (slot_of person r op task reply) in
          record {
            last = slot_of person r op task reply;
            there = subst P p (subst D d (look person r.device ∙ new_slot_found (slot_of person r op task reply) t.slots));
            later = inr (later_than s h new (p, d));
            ordered = ordered;
          }

      of_another : ((person ≡ s.person) × (r.device ≡ s.device) → ⊥) → IsSince s u
      of_another apart = record {
        last = h.last;
        there = look s.person s.device ∙ other_slot_found (slot_of person r op task reply) t.slots s.person s.device apart h.ordered ∙ h.there;
        later = h.later;
        ordered = ordered;
      }

slots_after : (t v : TablesOf) (person : ℕ) (retry : Option Retry) (op : Op) (task : TaskId) (reply : Kept) (s : Slot) → v.slots ≡ t.slots → ByNumber t person op task retry (New person) → IsSince s t → IsSince s (with_reply v person retry op task reply)
slots_after t v person None op task reply s same new h = by_slots s t v same h
slots_after t v person (Some r) op task reply s same new h =
    with_new t person op task r reply s (with_reply v person (Some r) op task reply) h new (ap (λ (l : List Slot). slots_with l (slot_of person r op task reply)) same)

module _ (s : Slot) (t : TablesOf) where
  idle_since : (after : TablesOf) → after ≡ t → IsSince s t → IsSince s after
  idle_since after same h = subst (IsSince s) (sym same) h

  asks_since : (moment : ℕ) (caller : List ℕ) (retry : Option Retry) (task : TaskId) (c : Command) (asked : Record) (known : Sending) (left : Option Record) (answer : Answer) (after : TablesOf) → IsSent t caller retry (op_of c) task known → AsksAs t moment retry task c asked known left answer after → IsSince s t → IsSince s after
  asks_since moment caller retry task c asked (New person) left answer after sent asks h = at asks.0 asks.1 asks.2
    where
      at : (o : Consequence) → Comes t person moment task.0 c o → Settles t person retry (op_of c) task asked o left answer after → IsSince s after
      at (accepted v about) comes settles =
          subst (IsSince s) (sym settles.3)
          (slots_after t v person retry (op_of c) task settles.0 s (comes_keeps t person moment task.0 c v about comes) (new_number t (op_of c) task retry (find caller (directory t)) person sent) h)
      at (refused why) comes settles = idle_since after settles.0.1 h
  asks_since moment caller retry task c asked (Answered reply) left answer after sent asks h = idle_since after asks.0.1 h
  asks_since moment caller retry task c asked (sending.Refused why) left answer after sent asks h = idle_since after asks.0.1 h

with_since : (s : Slot) (left : Option Record) (acted : TablesOf) → IsSince s acted → IsSince s (kept_at left acted)
with_since s left acted h = by_slots s acted (kept_at left acted) refl h

-- what a turn and what is done behind it leave
behind_since : (s : Slot) (t : TablesOf) (moment : ℕ) (Does : Doing) (left : Option Record) (reply : Reply) (after : TablesOf) → ((u v : TablesOf) (own : Option Record) (answer : Answer) → Does u own answer v → IsSince s u → IsSince s v) → Behind t moment Does left reply after → IsSince s t → IsSince s after
behind_since s t moment Does left reply after each d h =
    let turned = by_slots s t d.turned (slots_kept t d.turned (turn_keeps moment t d.turned d.dues d.turn)) h in
    subst (IsSince s) (sym d.after_is) (with_since s left d.acted (each d.turned d.acted d.own reply.answer d.does turned))

decides_since : (s : Slot) (t : TablesOf) (e : Event) (left : Option Record) (reply : Reply) (after : TablesOf) → Decides t e left reply after → IsSince s t → IsSince s after
decides_since s t (Ask at caller retry task c) left reply after d h =
    let moment = effective t at.0 in
    let asked = Asked (record { 0 = moment }) caller retry task c in
    behind_since s t moment (λ u. Asks u moment caller retry task c) left reply after (λ u v own answer asks since. asks_since s u moment caller retry task c asked asks.sending own answer v asks.sent asks.asks since) d h
decides_since s t (Turn at) left reply after d h = behind_since s t (effective t at.0) Rests left reply after (λ u v own answer rests since. idle_since s u v rests.0.1 since) d h
decides_since s t (Read caller what) left reply after d h = idle_since s t after d.0.1 h

step_since : (s : Slot) (t : TablesOf) (e : Event) (reply : Reply) (after : TablesOf) → IsStep t e reply after → IsSince s t → IsSince s after
step_since s t e reply after (inl d) h = decides_since s t e d.0 reply after d.1 h
step_since s t e reply after (inr none) h = idle_since s t after none.1 h

-- ---- a command that is accepted

settled_is_kept : (t : TablesOf) (moment person : ℕ) (caller : List ℕ) (r : Retry) (task : TaskId) (c : Command) (asked kept : Record) (o : Consequence) (answer : Answer) (after : TablesOf) → AscendBy slot_cmp t.slots → IsSent t caller (Some r) (op_of c) task (New person) → Comes t person moment task.0 c o → Settles t person (Some r) (op_of c) task asked o (Some kept) answer after → (s : Slot) × IsAccepted t caller r task c answer s × IsSince s after
settled_is_kept t moment person caller r task c asked kept (accepted v about) answer after up sent comes settles =
    let slot = slot_of person r (op_of c) task settles.0 in
    let same = comes_keeps t person moment task.0 c v about comes in
    let held : after.slots ≡ slots_with t.slots slot = ap (λ (x : TablesOf). x.slots) settles.3 ∙ ap (λ (l : List Slot). slots_with l slot) same in (
      slot,
      record { person = new_caller t (op_of c) task (Some r) (find caller (directory t)) person sent; device = refl; number = refl; op = refl; task_is = refl; reply = settles.4 },
      record {
        last = slot;
        there = ap (λ (l : List Slot). slot_in person r.device l) held ∙ new_slot_found slot t.slots;
        later = inl refl;
        ordered = subst (AscendBy slot_cmp) (sym held) (slots_with_ascend slot t.slots up);
      },
    )
settled_is_kept t moment person caller r task c asked kept (refused why) answer after up sent comes settles = absurd cc

accepted_is_kept : (t : TablesOf) (moment : ℕ) (caller : List ℕ) (r : Retry) (task : TaskId) (c : Command) (asked kept : Record) (known : Sending) (answer : Answer) (after : TablesOf) → AscendBy slot_cmp t.slots → IsSent t caller (Some r) (op_of c) task known → AsksAs t moment (Some r) task c asked known (Some kept) answer after → (s : Slot) × IsAccepted t caller r task c answer s × IsSince s after
accepted_is_kept t moment caller r task c asked kept (New person) answer after up sent asks = settled_is_kept t moment person caller r task c asked kept asks.0 answer after up sent asks.1 asks.2
accepted_is_kept t moment caller r task c asked kept (Answered reply) answer after up sent asks = absurd cc
accepted_is_kept t moment caller r task c asked kept (sending.Refused why) answer after up sent asks = absurd cc

-- the record of a command is its own, not that of the turn before it
its_own : (moment n : ℕ) (own : Option Record) (at : Moment) (caller : List ℕ) (retry : Option Retry) (task : TaskId) (c : Command) → Some (Asked at caller retry task c) ≡ left_with moment n own → own ≡ Some (Asked at caller retry task c)
its_own moment n (Some k) at caller retry task c is = sym is
its_own moment zero None at caller retry task c is = absurd cc
its_own moment (suc n) None at caller retry task c is = absurd cc

pub is_kept : (t : TablesOf) (at moment : Moment) (caller : List ℕ) (r : Retry) (task : TaskId) (c : Command) (reply : Reply) (after : TablesOf) → AscendBy slot_cmp t.slots → Decides t (Ask at caller (Some r) task c) (Some (Asked moment caller (Some r) task c)) reply after → (s : Slot) × IsAccepted t caller r task c reply.answer s × IsSince s after
is_kept t at moment caller r task c reply after up d =
    let now = effective t at.0 in
    let keeps = turn_keeps now t d.turned d.dues d.turn in
    let ordered : AscendBy slot_cmp (d.turned).slots = subst (AscendBy slot_cmp) (sym (slots_kept t d.turned keeps)) up in
    let kept = Asked moment caller (Some r) task c in
    let own = its_own now (length d.dues) d.own moment caller (Some r) task c d.left_is in
    let P : Option Record → Type 0 = λ o. AsksAs d.turned now (Some r) task c (Asked (record { 0 = now }) caller (Some r) task c) (d.does).sending o reply.answer d.acted in
    let found = accepted_is_kept d.turned now caller r task c (Asked (record { 0 = now }) caller (Some r) task c) kept (d.does).sending reply.answer d.acted ordered (d.does).sent (subst P own (d.does).asks) in
    let is = found.1 in (
      found.0,
      record { person = ap (λ (w : TablesOf). find caller (directory w)) (sym keeps) ∙ is.person; device = is.device; number = is.number; op = is.op; task_is = is.task_is; reply = is.reply },
      subst (IsSince found.0) (sym d.after_is) (with_since found.0 (Some kept) d.acted found.2),
    )

-- ---- a history

of_device : (t : TablesOf) (s last : Slot) (number : ℕ) (e : Event) → last.person ≡ s.person → last.device ≡ s.device → IsOf t s number e → IsOf t last number e
of_device t s last number (Ask at caller retry task c) p d of = (of.0 ∙ ap Some (sym p), of.1 ∙ ap (λ (x : ℕ). Some (record { device = x; number = number })) (sym d))
of_device t s last number (Turn at) p d of = absurd of
of_device t s last number (Read caller what) p d of = absurd of

repeated : (s : Slot) (t : TablesOf) (e : Event) (reply : Reply) (after : TablesOf) → IsSince s t → IsStep t e reply after → IsOf t s s.number e → IsSame s e → IsRepeat s t e after reply.answer
repeated s t e reply after h (inr none) of same = inr (inr (none.1, ap (λ (r : Reply). r.answer) none.0))
repeated s t e reply after h (inl d) of same = at h.later
  where
    at : (h.last ≡ s) ⊎ (s.number < (h.last).number) → IsRepeat s t e after reply.answer
    at (inl is) =
        let told = (acts_once t e d.0 reply after d.1).again s (h.there ∙ ap Some is) of same in
        inl ((d.0, told.0), told.1)
    at (inr low) =
        let last = h.last in
        let is = slot_is s.person s.device t.slots last h.there in
        let D : ℕ → Type 0 = λ x. device_slot t s.person x ≡ Some last in
        let P : ℕ → Type 0 = λ x. device_slot t x last.device ≡ Some last in
        let there : IsLast t last = subst P (sym is.0) (subst D (sym is.1) h.there) in
        let told = (acts_once t e d.0 reply after d.1).stale last s.number there low (of_device t s last s.number e is.0 is.1 of) in
        inr (inl ((d.0, told.0), record { last = last; there = h.there; later = low; told = told.1 }))

pub remembers : (s : Slot) (t : TablesOf) (history : History) → IsSince s t → IsHistory t history → Remembers s t history
remembers s t [] h legal = tt
remembers s t (e ∷ es) h legal = ((λ of same. repeated s t e.event e.reply e.after h legal.0 of same), remembers s e.after es (step_since s t e.event e.reply e.after legal.0 h) legal.1)

-- What a command leaves, at the moment at which it acts.
use Rattle.std.proofs.Common.{◌≡◌, ℕ, ◌<◌, ◌≤◌, List, length, Option, None, Some, IfSome, refl, ap, sym, subst, ◌∙◌, arith}
use Rattle.std.proofs.lemmas.Bool.{eqb-true, le-leb}
use Rattle.ht_base.specs.declared.event.Command.{Command}
use Rattle.ht_base.specs.declared.event.Command.TheVariants as command
use Rattle.ht_base.specs.declared.operation.Op.{Op}
use Rattle.ht_base.specs.declared.reply.Answer.{Answer}
use Rattle.ht_base.specs.declared.reply.Answer.TheVariants.{Refused}
use Rattle.ht_base.specs.declared.reply.Refusal.{Refusal}
use Rattle.ht_base.specs.declared.retry.Retry.{Retry}
use Rattle.ht_base.specs.declared.task_id.TaskId.{TaskId}
use Rattle.ht_base.specs.Events.{IsRetry, IsTaskOf, op_of}
use Rattle.ht_compose.specs.ByHand.{IsEntryOf}
use Rattle.ht_machine.specs.declared.asking.CommandAt.{CommandAt}
use Rattle.ht_machine.specs.declared.sending.Sending.{Sending}
use Rattle.ht_machine.specs.Commands.{ActsOn, AfterEffect, BehindGate, Comes, DoesOn, MakesEntry, accepted, refused}
use Rattle.ht_machine.specs.Deciding.{AsksAs, NamesOwner, Shows}
use Rattle.ht_machine.specs.Gate.{Gate, gate, opens, shuts}
use Rattle.ht_machine.specs.Planning.{Does, IsAsked, IsReady, Makes, PlansAsk, PlansNew, record_of}
use Rattle.ht_machine.specs.Sending.{IsSent, answer_of, keeping_reply, slot_of, with_reply}
use Rattle.ht_owner.specs.Effects.{Effect, does, effect, refuses}
use Rattle.ht_tree.specs.declared.slot.Kept.{Kept}
use Rattle.ht_tree.specs.declared.slot.Slot.{Slot}
use Rattle.ht_tree.specs.Plans.{ChangesOf, IsPlanOf, PlanOf, planned, slots_after}
use Rattle.ht_tree.specs.Slots.{IsNamedBy, IsSoundReply}
use Rattle.ht_tree.specs.Soundness.{IsSound}
use Rattle.ht_tree.specs.Tables.{TablesOf}
use Rattle.ht_tree.proofs.PublicLaws.{keeping_fits, keeping_planned, slot_sound, within}

-- where nothing more changes
pub stays : (t : TablesOf) (p : PlanOf) → IsPlanOf t p → IsSound (planned t p) → Makes t p None (planned t p)
stays t p fit sound = record { fits = fit; makes = refl; sound = sound; later = omega arith; within = sound.last_within }

-- ---- the reply that is kept

-- a command on a task names it: it is about that task, or about a new one behind it
acts_on_it : (u : TablesOf) (caller moment task : ℕ) (c : Command) (v : TablesOf) (about tasks : ℕ) → (1 ≤ about) × (about ≤ tasks) → ActsOn u caller moment task c (accepted v about) → (1 ≤ task) × (task ≤ tasks)
acts_on_it u caller moment task c v about tasks there = at (gate u (op_of c) caller task)
  where
    by : (w : TablesOf) (e : Effect) → AfterEffect w moment task e (accepted v about) → (1 ≤ task) × (task ≤ tasks)
    by w (does row follow) a =
        let it = a.1 in
        let low = there.0 in
        let high = there.1 in
        (omega arith, omega arith)
    by w (refuses why) a = absurd cc

    made : (found : Option ℕ) (sub : List ℕ) → IsEntryOf u task sub found → MakesEntry u moment task sub found (accepted v about) → (1 ≤ task) × (task ≤ tasks)
    made None sub is m = absurd cc
    made (Some entry) sub is m =
        let place = within u.rows is.0 task is.2 in
        let low = place.0 in
        let high = place.1 in
        let it = m.1 in
        let last = there.1 in
        (omega arith, omega arith)

    on_it : (d : Command) → DoesOn u caller moment task d (accepted v about) → (1 ≤ task) × (task ≤ tasks)
    on_it (command.InstantiateSubTask sub) a = made a.0 sub a.1 a.2
    on_it d a = let h = a.2 in by a.0 (effect a.0 h.1 caller (record { 0 = moment }) d h.0) h.4

    at : (g : Gate) → BehindGate u caller moment task c g (accepted v about) → (1 ≤ task) × (task ≤ tasks)
    at (opens row) a = on_it c a
    at (shuts why) a = absurd cc

-- or none for a create
named : (u : TablesOf) (caller moment : ℕ) (task : TaskId) (c : Command) (v : TablesOf) (about tasks : ℕ) → Comes u caller moment task.0 c (accepted v about) → IsTaskOf c task → (1 ≤ about) × (about ≤ tasks) → IsNamedBy tasks (op_of c) task
named u caller moment task (command.Create model input activate_at) v about tasks comes is there = (is, let none = eqb-true task.0 0 is in omega arith)
named u caller moment task c v about tasks comes is there = let on_it = acts_on_it u caller moment task.0 c v about tasks there comes in (le-leb 1 task.0 on_it.0, on_it.1)

reply_is_sound : (u : TablesOf) (about : ℕ) (reply : Kept) → IsSound u → Shows u about reply → NamesOwner u.people reply → IsSoundReply u.people (length u.rows) reply
reply_is_sound u about reply sound shows names =
    let row = shows.0 in
    let number = sound.numbered about row shows.1 in
    let place = within u.rows row about shows.1 in
    let low = place.0 in
    let high = place.1 in
    let S : Kept → Type 0 = λ k. IsSoundReply u.people (length u.rows) k in
    let N : Kept → Type 0 = λ k. NamesOwner u.people k in
    subst S (sym shows.2) ((omega arith, omega arith), subst N shows.2 names)

with_reply_sound : (u : TablesOf) (person : ℕ) (retry : Option Retry) (op : Op) (task : TaskId) (reply : Kept) → IsSound u → person < length u.people.persons → IfSome retry IsRetry → IsNamedBy (length u.rows) op task → IsSoundReply u.people (length u.rows) reply → IsSound (with_reply u person retry op task reply)
with_reply_sound u person None op task reply sound known is names kept = sound
with_reply_sound u person (Some r) op task reply sound known is names kept =
    slot_sound u (slot_of person r op task reply) sound (record { person = known; numbered = is; task = names; kept = kept })

keeping_reply_planned : (t : TablesOf) (p : PlanOf) (person : ℕ) (retry : Option Retry) (op : Op) (task : TaskId) (reply : Kept) → (p.changes).slot ≡ None → planned t (keeping_reply p person retry op task reply) ≡ with_reply (planned t p) person retry op task reply
keeping_reply_planned t p person None op task reply none = refl
keeping_reply_planned t p person (Some r) op task reply none = keeping_planned t p (slot_of person r op task reply) none

keeping_reply_fits : (t : TablesOf) (p : PlanOf) (person : ℕ) (retry : Option Retry) (op : Op) (task : TaskId) (reply : Kept) → IsPlanOf t p → IsPlanOf t (keeping_reply p person retry op task reply)
keeping_reply_fits t p person None op task reply fit = fit
keeping_reply_fits t p person (Some r) op task reply fit = keeping_fits t p (slot_of person r op task reply) fit

-- ---- a new command

module _ (t : TablesOf) (p q : PlanOf) (person : ℕ) (a : CommandAt) (ready : IsReady t p) where
  -- that is accepted
  module _ (about : TaskId) (reply : Kept) (later : t.last ≤ a.at.0) (known : person < length t.people.persons) (is : IsAsked a) where
    pub asked_anew : Does t p q (Comes (planned t p) person a.at.0 a.task.0 a.command.now) about → Shows (planned t q) about.0 reply → NamesOwner t.people reply → PlansNew t p (keeping_reply q person a.retry (op_of a.command.now) a.task reply) a.at.0 person a.retry a.task a.command.now (record_of a) (Some (record_of a)) (answer_of reply)
    asked_anew came shows names =
        let op = op_of a.command.now in
        let v = came.after in
        let u = planned t q in
        let W : TablesOf → TablesOf = λ x. with_reply x person a.retry op a.task reply in
        let S : TablesOf → Type 0 = λ x. IsSound x in
        let A : TablesOf → Type 0 = λ x. Shows x about.0 reply in
        let fresh : (q.changes).slot ≡ None = (came.goes).slot ∙ ready.fresh in
        let made : IsSound u = subst S (sym (came.goes).to) (came.sound ready.sound) in
        let place = within u.rows shows.0 about.0 shows.1 in
        let names_task = named (planned t p) person a.at.0 a.task a.command.now v about.0 (length u.rows) came.comes is.task place in
        let kept : IsSound (W u) = with_reply_sound u person a.retry op a.task reply made known is.retry names_task (reply_is_sound u about.0 reply made shows names) in
        record {
          after = W v;
          asks = (accepted v about.0, came.comes, (reply, subst A (came.goes).to shows, refl, refl, refl));
          makes = record {
            fits = keeping_reply_fits t q person a.retry op a.task reply (came.goes).fits;
            makes = keeping_reply_planned t q person a.retry op a.task reply fresh ∙ ap W (came.goes).to;
            sound = let K : TablesOf → Type 0 = λ x. IsSound (W x) in subst K (came.goes).to kept;
            later = later;
            within = is.within;
          };
        }

  -- that is refused, behind which the plan goes back
  pub refused_anew : (back : PlanOf) (why : Refusal) → back ≡ record q { changes = q.marked } → q.marked ≡ p.marked → Comes (planned t p) person a.at.0 a.task.0 a.command.now (refused why) → PlansNew t p back a.at.0 person a.retry a.task a.command.now (record_of a) None (Refused why)
  refused_anew back why is same comes =
      let once_more : back ≡ p =
      is
      ∙ ap (λ (m : ChangesOf). let x : PlanOf = record { changes = m; marked = m } in x) (same ∙ ready.marked)
      ∙ ap (λ (m : ChangesOf). let x : PlanOf = record { changes = p.changes; marked = m } in x) (sym ready.marked) in
      let M : PlanOf → Type 0 = λ x. Makes t x None (planned t p) in
      record {
        after = planned t p;
        asks = (refused why, comes, ((refl, refl), refl));
        makes = subst M (sym once_more) (stays t p ready.fits ready.sound);
      }

-- ---- any command

-- by what is known of it
module _ (t : TablesOf) (p : PlanOf) (a : CommandAt) (op : Op) (sending : Sending) (named : op ≡ op_of a.command.now) (sent : IsSent t a.caller a.retry op a.task sending) (ready : IsReady t p) where
  same : (planned t p).slots ≡ t.slots
  same = ap (λ (o : Option Slot). slots_after t.slots o) ready.fresh

  known : IsSent (planned t p) a.caller a.retry (op_of a.command.now) a.task sending
  known =
      let P : Op → Type 0 = λ o. IsSent t a.caller a.retry o a.task sending in
      let S : List Slot → Type 0 = λ l. IsSent (record t { slots = l }) a.caller a.retry (op_of a.command.now) a.task sending in
      subst S (sym same) (subst P named sent)

  -- one that leaves nothing
  pub idle_asked : (answer : Answer) → AsksAs (planned t p) a.at.0 a.retry a.task a.command.now (record_of a) sending None answer (planned t p) → PlansAsk t p p a.at.0 a.caller a.retry a.task a.command.now None answer
  idle_asked answer asks = record {
    after = planned t p;
    asks = record { sending = sending; sent = known; asks = asks };
    makes = stays t p ready.fits ready.sound;
  }

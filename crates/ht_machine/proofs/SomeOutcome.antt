-- Each event has an outcome on sound tables.
use Rattle.std.proofs.Common.{◌≡◌, ◌⊎◌, ℕ, ◌≤◌, Bool, true, false, List, [], ◌∷◌, length, None, Option, Some, inl, inr, refl, sym, ap, subst, arith, rules}
use Rattle.std.proofs.lemmas.Bool.{cases_eq, cases_lt}
use denote.Enum.Bare.{same_false, same_true, sameb}
use Rattle.ht_base.specs.contracts.operation.Op.{the_type}
use Rattle.ht_base.specs.declared.event.Command.{Command}
use Rattle.ht_base.specs.declared.event.Event.{Event}
use Rattle.ht_base.specs.declared.event.Event.TheVariants.{Ask, Read, Turn}
use Rattle.ht_base.specs.declared.operation.Op.{Op}
use Rattle.ht_base.specs.declared.record.Record.{Record}
use Rattle.ht_base.specs.declared.record.Record.TheVariants.{Asked}
use Rattle.ht_base.specs.declared.reply.Answer.{Answer}
use Rattle.ht_base.specs.declared.reply.Answer.TheVariants.{Turned}
use Rattle.ht_base.specs.declared.reply.Answer.TheVariants as told
use Rattle.ht_base.specs.declared.reply.Refusal.TheVariants as refusal
use Rattle.ht_base.specs.declared.reply.Reply.{Reply}
use Rattle.ht_base.specs.declared.retry.Retry.{Retry}
use Rattle.ht_base.specs.declared.task_id.TaskId.{TaskId}
use Rattle.ht_base.specs.Events.{op_of}
use Rattle.ht_machine.proofs.Coming.{IsThere, Stand, always_comes}
use Rattle.ht_machine.proofs.TurnsEnd.{fit_of, in_order_of, turn_ends}
use Rattle.ht_machine.specs.Commands.{Comes, Consequence, accepted, refused}
use Rattle.ht_machine.specs.declared.sending.Sending.{Sending}
use Rattle.ht_machine.specs.declared.sending.Sending.TheVariants as sending
use Rattle.ht_machine.specs.declared.sending.Sending.TheVariants.{New, Answered}
use Rattle.ht_machine.specs.Deciding.{Asks, AsksAs, Behind, Decides, Doing, Rests, done, effective, kept_at, left_with, reply_of, shown_to}
use Rattle.ht_machine.specs.Outcomes.{AreRead, HasOutcome, HaveOutcomes}
use Rattle.ht_machine.specs.Sending.{ByCaller, ByLast, BySlot, answer_of, with_reply}
use Rattle.ht_models.specs.Model.{ModelOf}
use Rattle.ht_people.specs.Directory.{find}
use Rattle.ht_tree.specs.declared.slot.Kept.{Kept}
use Rattle.ht_tree.specs.declared.slot.Slot.{Slot}
use Rattle.ht_tree.specs.Soundness.{IsSound}
use Rattle.ht_tree.specs.Tables.{TablesOf, device_slot, directory}

-- ---- what is known of a command

-- two commands are of one operation or of two
same_op : (a b : Op) → (a ≡ b) ⊎ (a ≡ b → ⊥)
same_op a b = go (sameb the_type a b) refl
  where
    go : (s : Bool) → sameb the_type a b ≡ s → (a ≡ b) ⊎ (a ≡ b → ⊥)
    go true is = inl (same_true the_type (search rules) a b is)
    go false is = inr (same_false the_type a b is)

-- and of one task or of two
same_task_id : (a b : TaskId) → (a ≡ b) ⊎ (a ≡ b → ⊥)
same_task_id a b = elim (cases_eq a.0 b.0) [
  | inl e ↦ inl (ap (λ (n : ℕ). let id : TaskId = record { 0 = n } in id) e)
  | inr d ↦ inr (λ same. d (ap (λ (id : TaskId). id.0) same))
]

-- by the last command of its device
known_by_last : (person number : ℕ) (op : Op) (task : TaskId) (last : Slot) → (s : Sending) × ByLast person number op task last s
known_by_last person number op task last = elim (cases_lt last.number number) [
  | inl up ↦ (New person, (up, refl))
  | inr low ↦ elim (cases_eq number last.number) [
    | inl e ↦ of_same e (same_op last.op op) (same_task_id last.task task)
    | inr d ↦ (sending.Refused (refusal.NumberStale last.number), inl (omega (arith, low, d), refl))
  ]
]
  where
    of_same : number ≡ last.number → (last.op ≡ op) ⊎ (last.op ≡ op → ⊥) → (last.task ≡ task) ⊎ (last.task ≡ task → ⊥) → (s : Sending) × ByLast person number op task last s
    of_same e (inl a) (inl b) = (Answered last.kept, (e, a, b, refl))
    of_same e (inl a) (inr b) = (sending.Refused (refusal.NumberReused last.number), inr (e, λ both. b both.1, refl))
    of_same e (inr a) b = (sending.Refused (refusal.NumberReused last.number), inr (e, λ both. a both.0, refl))

-- by its caller and its number
known_by : (t : TablesOf) (op : Op) (task : TaskId) (retry : Option Retry) (person : Option ℕ) → (s : Sending) × ByCaller t op task retry person s
known_by t op task retry None = (sending.Refused refusal.Person, refl)
known_by t op task None (Some person) = (New person, refl)
known_by t op task (Some r) (Some person) = go (device_slot t person r.device)
  where
    go : (o : Option Slot) → (s : Sending) × BySlot person r.number op task o s
    go None = (New person, refl)
    go (Some last) = known_by_last person r.number op task last

-- ---- what is left and answered

-- what is done on tables leaves something
record Leads (u : TablesOf) (D : Doing) : Type 0 where
  own : Option Record
  answer : Answer
  acted : TablesOf
  does : D u own answer acted
  stand : Stand acted

-- a reply that is kept changes neither rows nor models
replied : (v : TablesOf) (person : ℕ) (retry : Option Retry) (op : Op) (task : TaskId) (reply : Kept) → Stand v → Stand (with_reply v person retry op task reply)
replied v person None op task reply stand = stand
replied v person (Some r) op task reply stand = record { fit = record { numbered = (stand.fit).numbered; sized = (stand.fit).sized }; all = stand.all; some = stand.some }

-- a command that is new, was answered or is refused
asks_as : (u : TablesOf) (moment : ℕ) (retry : Option Retry) (task : TaskId) (c : Command) (asked : Record) (known : Sending) → Stand u → Leads u (λ v. AsksAs v moment retry task c asked known)
asks_as u moment retry task c asked (New person) stand =
    let comes = always_comes u person moment task.0 c stand in
    settled comes.0 comes.1 comes.2
  where
    settled : (o : Consequence) → Comes u person moment task.0 c o → IsThere o → Leads u (λ v. AsksAs v moment retry task c asked (New person))
    settled (accepted v about) comes (after, row, there) =
        let reply = done (directory v) row in
        record {
          own = Some asked;
          answer = answer_of reply;
          acted = with_reply v person retry (op_of c) task reply;
          does = (accepted v about, comes, (reply, (row, there, refl), refl, refl, refl));
          stand = replied v person retry (op_of c) task reply after;
        }
    settled (refused why) comes there = record { own = None; answer = told.Refused why; acted = u; does = (refused why, comes, ((refl, refl), refl)); stand = stand }
asks_as u moment retry task c asked (Answered reply) stand = record { own = None; answer = answer_of reply; acted = u; does = ((refl, refl), refl); stand = stand }
asks_as u moment retry task c asked (sending.Refused why) stand = record { own = None; answer = told.Refused why; acted = u; does = ((refl, refl), refl); stand = stand }

-- each command
always_asks : (u : TablesOf) (moment : ℕ) (caller : List ℕ) (retry : Option Retry) (task : TaskId) (c : Command) → Stand u → Leads u (λ v. Asks v moment caller retry task c)
always_asks u moment caller retry task c stand =
    let known = known_by u (op_of c) task retry (find caller (directory u)) in
    let a = asks_as u moment retry task c (Asked (record { 0 = moment }) caller retry task c) known.0 stand in
    record { own = a.own; answer = a.answer; acted = a.acted; does = record { sending = known.0; sent = known.1; asks = a.does }; stand = a.stand }

-- ---- events

-- what is decided, on tables that stand so
record IsDecided (t : TablesOf) (D : Option Record → Reply → TablesOf → Type 0) : Type 0 where
  left : Option Record
  reply : Reply
  after : TablesOf
  decides : D left reply after
  stand : Stand after

-- all that is due is taken first
behind_turn : (t : TablesOf) (moment : ℕ) (D : Doing) → Stand t → ((u : TablesOf) → Stand u → Leads u D) → IsDecided t (Behind t moment D)
behind_turn t moment D stand leads =
    let turn = turn_ends moment t stand.fit stand.all in
    let S : List ModelOf → Type 0 = λ ms. 1 ≤ length ms in
    let led = leads turn.after (record { fit = turn.fit; all = turn.all; some = subst S (sym turn.models) stand.some }) in
    let left = left_with moment (length turn.dues) led.own in
    let now = led.stand in
    record {
      left = left;
      reply = record { taken = length turn.dues; answer = led.answer };
      after = kept_at left led.acted;
      decides = record {
        turned = turn.after;
        dues = turn.dues;
        turn = record { takings = turn.takings; ended = turn.ended };
        taken = refl;
        own = led.own;
        acted = led.acted;
        does = led.does;
        left_is = refl;
        after_is = refl;
      };
      stand = record { fit = record { numbered = (now.fit).numbered; sized = (now.fit).sized }; all = now.all; some = now.some };
    }

-- of each event
decided : (t : TablesOf) (e : Event) → Stand t → IsDecided t (Decides t e)
decided t (Turn at) stand = behind_turn t (effective t at.0) Rests stand (λ u now. record { own = None; answer = Turned; acted = u; does = ((refl, refl), refl); stand = now })
decided t (Ask at caller retry task c) stand =
    let moment = effective t at.0 in
    behind_turn t moment (λ u. Asks u moment caller retry task c) stand (λ u now. always_asks u moment caller retry task c now)
decided t (Read caller what) stand = record { left = None; reply = reply_of (shown_to t what (find caller (directory t))); after = t; decides = ((refl, refl), refl); stand = stand }

-- sound tables stand so
stands : (t : TablesOf) → AreRead t.models → IsSound t → Stand t
stands t read sound = record { fit = fit_of t read.sized sound; all = in_order_of t sound; some = read.some }

-- one event has an outcome
pub some_outcome : (t : TablesOf) (e : Event) → AreRead t.models → IsSound t → HasOutcome t e
some_outcome t e read sound = let d = decided t e (stands t read sound) in (d.left, d.reply, d.after, d.decides)

-- one after another
outcomes_from : (t : TablesOf) (events : List Event) → Stand t → HaveOutcomes t events
outcomes_from t [] stand = tt
outcomes_from t (e ∷ events) stand =
    let d = decided t e stand in
    (d.left, d.reply, d.after, d.decides, outcomes_from d.after events d.stand)

-- and so have many
pub some_outcomes : (t : TablesOf) (events : List Event) → AreRead t.models → IsSound t → HaveOutcomes t events
some_outcomes t events read sound = outcomes_from t events (stands t read sound)

-- An event has one outcome on given tables.
use Rattle.std.proofs.Common.{◌≡◌, ℕ, List, [], ◌∷◌, length, Option, None, Some, ap, sym, subst, ◌∙◌, inl, inr, arith}
use Rattle.ht_base.specs.declared.event.Command.{Command}
use Rattle.ht_base.specs.declared.event.Command.TheVariants as command
use Rattle.ht_base.specs.declared.event.Event.{Event}
use Rattle.ht_base.specs.declared.event.Event.TheVariants.{Ask, Read, Turn}
use Rattle.ht_base.specs.declared.moment.Moment.{Moment}
use Rattle.ht_base.specs.declared.parts.Parts.{Parts}
use Rattle.ht_base.specs.declared.record.Record.{Record}
use Rattle.ht_base.specs.declared.record.Record.TheVariants.{Asked}
use Rattle.ht_base.specs.declared.reply.Answer.{Answer}
use Rattle.ht_base.specs.declared.reply.Reply.{Reply}
use Rattle.ht_base.specs.declared.operation.Op.{Op}
use Rattle.ht_base.specs.declared.retry.Retry.{Retry}
use Rattle.ht_base.specs.declared.task_id.TaskId.{TaskId}
use Rattle.ht_base.specs.Events.{op_of}
use Rattle.ht_machine.specs.Commands.{ActivatesUnless, ActsOn, AfterEffect, BehindGate, Comes, Creates, DoesOn, GathersFirst, HasEffect, MakesEntry, Consequence, accepted, new_task, place_named, refused, waits_until, why_not}
use Rattle.ht_compose.proofs.PublicLaws.{one_gathered}
use Rattle.ht_compose.specs.ByHand.{IsEntryOf, entry_of}
use Rattle.ht_compose.specs.Downward.{freeing}
use Rattle.ht_compose.specs.Freeing.{checks_of}
use Rattle.ht_compose.specs.Items.Item.{Activate, Begin, Close, Make}
use Rattle.ht_machine.specs.declared.sending.Sending.{Sending}
use Rattle.ht_machine.specs.declared.sending.Sending.TheVariants as sending
use Rattle.ht_machine.specs.declared.sending.Sending.TheVariants.{New, Answered}
use Rattle.ht_machine.specs.Deciding.{Asks, AsksAs, Behind, Decides, Doing, Rests, Settles, Shows, done, effective, kept_at, left_with}
use Rattle.ht_machine.specs.Gate.{Gate, gate, opens, shuts}
use Rattle.ht_machine.specs.Following.{Spreads}
use Rattle.ht_machine.specs.Sending.{ByCaller, ByLast, BySlot, answer_of, with_reply}
use Rattle.ht_due.specs.declared.due.Due.{Due}
use Rattle.ht_machine.proofs.OneTurn.{one_turn, same_end}
use Rattle.ht_machine.proofs.Rows.{one}
use Rattle.ht_models.specs.Model.{ModelOf}
use Rattle.ht_owner.specs.declared.follow.Follow.{Follow}
use Rattle.ht_owner.specs.declared.follow.Follow.TheVariants as follow
use Rattle.ht_owner.specs.declared.follow.Follow.TheVariants.{Began, Freed, Held, Nothing}
use Rattle.ht_owner.specs.Effects.{Effect, does, effect, refuses}
use Rattle.ht_people.specs.Directory.{find}
use Rattle.ht_tree.specs.declared.row.Row.{Row}
use Rattle.ht_tree.specs.declared.slot.Kept.{Kept}
use Rattle.ht_tree.specs.declared.slot.Slot.{Slot}
use Rattle.ht_tree.specs.Tables.{TablesOf, device_slot, directory, model_at, model_of, task_row, with_row, with_rows}

both : (u v : TablesOf) (m n : ℕ) → u ≡ v → m ≡ n → accepted u m ≡ accepted v n
both u v m n e f = ap (λ x. accepted x m) e ∙ ap (λ k. accepted v k) f

-- ---- creates

same_activation : (at : Moment) (waits : Option Moment) (task : ℕ) (u v w : TablesOf) → ActivatesUnless at waits task u v → ActivatesUnless at waits task u w → v ≡ w
same_activation at None task u v w a b = same_end at u v w (Activate task ∷ []) a b
same_activation at (Some m) task u v w a b = a ∙ sym b

not_both : {A : Type 0} {o : Option A} {x : A} → o ≡ None → o ≡ Some x → ⊥
not_both none some = cc

same_create : (u : TablesOf) (caller moment : ℕ) (name : Option (List ℕ)) (input : Parts) (waits : Option Moment) (o p : Consequence) → Creates u caller moment name input waits o → Creates u caller moment name input waits p → o ≡ p
same_create u caller moment name input waits (accepted v j) (accepted w k) (fine, place, m, at, of, number, act) (fine_too, q, n, at_too, of_too, number_too, act_too) =
    let same_place = one (place_named u name) place q at at_too in
    let same_model = one (model_at u q) m n (ap (λ (x : ℕ). model_at u x) (sym same_place) ∙ of) of_too in
    let task : j ≡ k = number ∙ sym number_too in
    let now : Moment = record { 0 = moment } in
    let A : ℕ → ℕ → ModelOf → Type 0 = λ i x y. ActivatesUnless now waits i (with_row u (new_task u caller moment x input waits y)) v in
    let first : A k q n = subst (λ (y : ModelOf). A k q y) same_model (subst (λ (x : ℕ). A k x m) same_place (subst (λ (i : ℕ). A i place m) task act)) in
    both v w j k (same_activation now waits k (with_row u (new_task u caller moment q input waits n)) v w first act_too) task
same_create u caller moment name input waits (accepted v j) (refused why) a b = absurd (not_both a.0 b)
same_create u caller moment name input waits (refused why) (accepted w k) a b = absurd (not_both b.0 a)
same_create u caller moment name input waits (refused why) (refused other) a b = ap refused (one (why_not u name input) why other a b)

-- ---- the other commands

same_spread : (at : Moment) (f : Follow) (u : TablesOf) (task : ℕ) (v w : TablesOf) → Spreads at f task u v → Spreads at f task u w → v ≡ w
same_spread at Nothing u task v w a b = a ∙ sym b
same_spread at Began u task v w a b = same_end at u v w (Begin task ∷ []) a b
same_spread at follow.Activate u task v w a b = same_end at u v w (Activate task ∷ []) a b
same_spread at Held u task v w a b = a ∙ sym b
same_spread at Freed u task v w a b = same_end at (with_rows u (freeing task u.rows)) v w (checks_of task u.rows) a b
same_spread at (follow.Close end) u task v w a b = same_end at u v w (Close task end ∷ []) a b

same_effect : (u : TablesOf) (moment task : ℕ) (e : Effect) (o p : Consequence) → AfterEffect u moment task e o → AfterEffect u moment task e p → o ≡ p
same_effect u moment task (does row follow) (accepted v j) (accepted w k) a b = both v w j k (same_spread (record { 0 = moment }) follow (with_row u row) task v w a.0 b.0) (a.1 ∙ sym b.1)
same_effect u moment task (does row follow) (accepted v j) (refused why) a b = absurd b
same_effect u moment task (does row follow) (refused why) p a b = absurd a
same_effect u moment task (refuses why) o p a b = a ∙ sym b

same_has : (u : TablesOf) (caller moment task : ℕ) (c : Command) (o p : Consequence) → HasEffect u caller moment task c o → HasEffect u caller moment task c p → o ≡ p
same_has u caller moment task c o p (r, m, there, of, a) (s, n, found, named, b) =
    let row : r ≡ s = one (task_row u task) r s there found in
    let M : Row → Type 0 = λ x. model_of u x ≡ Some m in
    let model : m ≡ n = one (model_of u s) m n (subst M row of) named in
    let R : Row → Type 0 = λ x. AfterEffect u moment task (effect u m caller (record { 0 = moment }) c x) o in
    let E : ModelOf → Type 0 = λ x. AfterEffect u moment task (effect u x caller (record { 0 = moment }) c s) o in
    same_effect u moment task (effect u n caller (record { 0 = moment }) c s) o p (subst E model (subst R row a)) b

same_gathered : (c : Command) (task : ℕ) (u v w : TablesOf) → GathersFirst c task u v → GathersFirst c task u w → v ≡ w
same_gathered (command.Complete output) task u v w a b = one_gathered u task v w a b
same_gathered c task u v w a b = a ∙ sym b

same_first : (u : TablesOf) (caller moment task : ℕ) (c : Command) (o p : Consequence) (v w : TablesOf) → GathersFirst c task u v → GathersFirst c task u w → HasEffect v caller moment task c o → HasEffect w caller moment task c p → o ≡ p
same_first u caller moment task c o p v w a b x y =
    let H : TablesOf → Type 0 = λ t. HasEffect t caller moment task c o in
    same_has w caller moment task c o p (subst H (same_gathered c task u v w a b) x) y

same_entry : (u : TablesOf) (task : ℕ) (name : List ℕ) (o p : Option ℕ) → IsEntryOf u task name o → IsEntryOf u task name p → o ≡ p
same_entry u task name o p (r, m, there, of, a) (s, n, found, named, b) =
    let row : r ≡ s = one (task_row u task) r s there found in
    let M : Row → Type 0 = λ x. model_of u x ≡ Some m in
    let model : m ≡ n = one (model_of u s) m n (subst M row of) named in
    a ∙ ap (λ (x : ModelOf). entry_of u.rows x task name) model ∙ sym b

same_made : (u : TablesOf) (moment task : ℕ) (name : List ℕ) (found : Option ℕ) (o p : Consequence) → MakesEntry u moment task name found o → MakesEntry u moment task name found p → o ≡ p
same_made u moment task name None o p a b = a ∙ sym b
same_made u moment task name (Some entry) (accepted v j) (accepted w k) a b = both v w j k (same_end (record { 0 = moment }) u v w (Make task entry ∷ []) a.0 b.0) (a.1 ∙ sym b.1)
same_made u moment task name (Some entry) (accepted v j) (refused why) a b = absurd b
same_made u moment task name (Some entry) (refused why) p a b = absurd a

same_on : (u : TablesOf) (caller moment task : ℕ) (c : Command) (o p : Consequence) → DoesOn u caller moment task c o → DoesOn u caller moment task c p → o ≡ p
same_on u caller moment task (command.InstantiateSubTask sub) o p (f, is, a) (g, as_well, b) =
    let E : Option ℕ → Type 0 = λ k. MakesEntry u moment task sub k o in
    same_made u moment task sub g o p (subst E (same_entry u task sub f g is as_well) a) b
same_on u caller moment task c o p a b = same_first u caller moment task c o p a.0 b.0 a.1 b.1 a.2 b.2

same_act : (u : TablesOf) (caller moment task : ℕ) (c : Command) (o p : Consequence) → ActsOn u caller moment task c o → ActsOn u caller moment task c p → o ≡ p
same_act u caller moment task c o p = at (gate u (op_of c) caller task)
  where
    at : (g : Gate) → BehindGate u caller moment task c g o → BehindGate u caller moment task c g p → o ≡ p
    at (opens row) a b = same_on u caller moment task c o p a b
    at (shuts why) a b = a ∙ sym b

same_outcome : (t : TablesOf) (person moment task : ℕ) (c : Command) (o p : Consequence) → Comes t person moment task c o → Comes t person moment task c p → o ≡ p
same_outcome t person moment task (command.Create model input activate_at) o p a b = same_create t person moment model input (waits_until moment activate_at) o p a b
same_outcome t person moment task c o p a b = same_act t person moment task c o p a b

-- ---- what is known of a command

same_last : (person number : ℕ) (op : Op) (task : TaskId) (last : Slot) (a b : Sending) → ByLast person number op task last a → ByLast person number op task last b → a ≡ b
same_last person number op task last (New p) (New q) s r = ap New (s.1 ∙ sym r.1)
same_last person number op task last (New p) (Answered k) s r = let up = s.0 in let e = r.0 in absurd (omega arith)
same_last person number op task last (New p) (sending.Refused why) s (inl r) = let up = s.0 in let down = r.0 in absurd (omega arith)
same_last person number op task last (New p) (sending.Refused why) s (inr r) = let up = s.0 in let e = r.0 in absurd (omega arith)
same_last person number op task last (Answered k) (New q) s r = let up = r.0 in let e = s.0 in absurd (omega arith)
same_last person number op task last (Answered j) (Answered k) s r = ap Answered (s.3 ∙ sym r.3)
same_last person number op task last (Answered k) (sending.Refused why) s (inl r) = let e = s.0 in let down = r.0 in absurd (omega arith)
same_last person number op task last (Answered k) (sending.Refused why) s (inr r) = absurd (r.1 (s.1, s.2))
same_last person number op task last (sending.Refused why) (New q) (inl s) r = let up = r.0 in let down = s.0 in absurd (omega arith)
same_last person number op task last (sending.Refused why) (New q) (inr s) r = let up = r.0 in let e = s.0 in absurd (omega arith)
same_last person number op task last (sending.Refused why) (Answered k) (inl s) r = let e = r.0 in let down = s.0 in absurd (omega arith)
same_last person number op task last (sending.Refused why) (Answered k) (inr s) r = absurd (s.1 (r.1, r.2))
same_last person number op task last (sending.Refused why) (sending.Refused other) (inl s) (inl r) = ap sending.Refused (s.1 ∙ sym r.1)
same_last person number op task last (sending.Refused why) (sending.Refused other) (inl s) (inr r) = let down = s.0 in let e = r.0 in absurd (omega arith)
same_last person number op task last (sending.Refused why) (sending.Refused other) (inr s) (inl r) = let down = r.0 in let e = s.0 in absurd (omega arith)
same_last person number op task last (sending.Refused why) (sending.Refused other) (inr s) (inr r) = ap sending.Refused (s.2 ∙ sym r.2)

same_sending : (t : TablesOf) (op : Op) (task : TaskId) (retry : Option Retry) (person : Option ℕ) (a b : Sending) → ByCaller t op task retry person a → ByCaller t op task retry person b → a ≡ b
same_sending t op task retry None a b s r = s ∙ sym r
same_sending t op task None (Some person) a b s r = s ∙ sym r
same_sending t op task (Some k) (Some person) a b s r = at (device_slot t person k.device) s r
  where
    at : (last : Option Slot) → BySlot person k.number op task last a → BySlot person k.number op task last b → a ≡ b
    at None s r = s ∙ sym r
    at (Some last) s r = same_last person k.number op task last a b s r

-- ---- what is left and answered

same_reply_of : (u : TablesOf) (task : ℕ) (a b : Kept) → Shows u task a → Shows u task b → a ≡ b
same_reply_of u task a b s t = s.2 ∙ ap (λ (r : Row). done (directory u) r) (one (task_row u task) s.0 t.0 s.1 t.1) ∙ sym t.2

-- the record left, the answer and the tables after are the same
pub record AreSame (k l : Option Record) (a b : Answer) (u v : TablesOf) : Type 0 where
  pub left : k ≡ l
  pub answer : a ≡ b
  pub after : u ≡ v

same_settled : (t : TablesOf) (person : ℕ) (retry : Option Retry) (op : Op) (task : TaskId) (asked : Record) (o : Consequence) (k l : Option Record) (a b : Answer) (u v : TablesOf) → Settles t person retry op task asked o k a u → Settles t person retry op task asked o l b v → AreSame k l a b u v
same_settled t person retry op task asked (accepted w about) k l a b u v s r =
    let reply = same_reply_of w about s.0 r.0 s.1 r.1 in
    record {
      left = s.2 ∙ sym r.2;
      answer = s.4 ∙ ap answer_of reply ∙ sym r.4;
      after = s.3 ∙ ap (λ (x : Kept). with_reply w person retry op task x) reply ∙ sym r.3;
    }
same_settled t person retry op task asked (refused why) k l a b u v s r = record { left = s.0.0 ∙ sym r.0.0; answer = s.1 ∙ sym r.1; after = s.0.1 ∙ sym r.0.1 }

same_asks : (t : TablesOf) (moment : ℕ) (retry : Option Retry) (task : TaskId) (c : Command) (asked : Record) (known : Sending) (k l : Option Record) (a b : Answer) (u v : TablesOf) → AsksAs t moment retry task c asked known k a u → AsksAs t moment retry task c asked known l b v → AreSame k l a b u v
same_asks t moment retry task c asked (New person) k l a b u v s r =
    let P : Consequence → Type 0 = λ o. Settles t person retry (op_of c) task asked o k a u in
    same_settled t person retry (op_of c) task asked r.0 k l a b u v (subst P (same_outcome t person moment task.0 c s.0 r.0 s.1 r.1) s.2) r.2
same_asks t moment retry task c asked (Answered reply) k l a b u v s r = record { left = s.0.0 ∙ sym r.0.0; answer = s.1 ∙ sym r.1; after = s.0.1 ∙ sym r.0.1 }
same_asks t moment retry task c asked (sending.Refused why) k l a b u v s r = record { left = s.0.0 ∙ sym r.0.0; answer = s.1 ∙ sym r.1; after = s.0.1 ∙ sym r.0.1 }

pub same_asked : (t : TablesOf) (moment : ℕ) (caller : List ℕ) (retry : Option Retry) (task : TaskId) (c : Command) (k l : Option Record) (a b : Answer) (u v : TablesOf) → Asks t moment caller retry task c k a u → Asks t moment caller retry task c l b v → AreSame k l a b u v
same_asked t moment caller retry task c k l a b u v s r =
    let asked = Asked (record { 0 = moment }) caller retry task c in
    let P : Sending → Type 0 = λ x. AsksAs t moment retry task c asked x k a u in
    let one_only = same_sending t (op_of c) task retry (find caller (directory t)) s.sending r.sending s.sent r.sent in
    same_asks t moment retry task c asked r.sending k l a b u v (subst P one_only s.asks) r.asks

same_rest : (t : TablesOf) (k l : Option Record) (a b : Answer) (u v : TablesOf) → Rests t k a u → Rests t l b v → AreSame k l a b u v
same_rest t k l a b u v s r = record { left = s.0.0 ∙ sym r.0.0; answer = s.1 ∙ sym r.1; after = s.0.1 ∙ sym r.0.1 }

-- the record left, the reply and the tables after are the same
pub record IsOne (k l : Option Record) (r s : Reply) (u v : TablesOf) : Type 0 where
  pub left : k ≡ l
  pub reply : r ≡ s
  pub after : u ≡ v

same_reply : (r s : Reply) → r.taken ≡ s.taken → r.answer ≡ s.answer → r ≡ s
same_reply r s taken answer = λ i. record { taken = taken i; answer = answer i }

-- where what is done has one outcome
same_behind : (t : TablesOf) (moment : ℕ) (Does : Doing) (k l : Option Record) (r s : Reply) (u v : TablesOf) → ((w : TablesOf) (m n : Option Record) (a b : Answer) (x y : TablesOf) → Does w m a x → Does w n b y → AreSame m n a b x y) → Behind t moment Does k r u → Behind t moment Does l s v → IsOne k l r s u v
same_behind t moment Does k l r s u v one a b =
    let turn = one_turn moment t a.turned b.turned a.dues b.dues a.turn b.turn in
    let n : length a.dues ≡ length b.dues = ap (λ (ds : List Due). length ds) turn.dues in
    let D : TablesOf → Type 0 = λ w. Does w a.own r.answer a.acted in
    let done = one b.turned a.own b.own r.answer s.answer a.acted b.acted (subst D turn.after a.does) b.does in
    let left = a.left_is ∙ ap (λ (x : ℕ). left_with moment x a.own) n ∙ ap (λ (o : Option Record). left_with moment (length b.dues) o) done.left ∙ sym b.left_is in
    record {
      left = left;
      reply = same_reply r s (a.taken ∙ n ∙ sym b.taken) done.answer;
      after = a.after_is ∙ ap (λ (o : Option Record). kept_at o a.acted) left ∙ ap (λ (w : TablesOf). kept_at l w) done.after ∙ sym b.after_is;
    }

pub same : (t : TablesOf) (e : Event) (k l : Option Record) (r s : Reply) (u v : TablesOf) → Decides t e k r u → Decides t e l s v → IsOne k l r s u v
same t (Turn at) k l r s u v a b = same_behind t (effective t at.0) Rests k l r s u v same_rest a b
same t (Ask at caller retry task c) k l r s u v a b =
    let moment = effective t at.0 in
    same_behind t moment (λ w. Asks w moment caller retry task c) k l r s u v (λ w m n x y p q. same_asked w moment caller retry task c m n x y p q) a b
same t (Read caller what) k l r s u v a b = record { left = a.0.0 ∙ sym b.0.0; reply = a.1 ∙ sym b.1; after = a.0.1 ∙ sym b.0.1 }

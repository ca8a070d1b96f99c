-- Commands that may be sent again: a device of a person numbers its commands, and one that was accepted
-- is answered as it was.
use Rattle.std.specs.Prelude.{◌≡◌, ◌⊎◌, ◌<◌, ℕ, List, Option, None, Some}
use Rattle.ht_base.specs.declared.operation.Op.{Op}
use Rattle.ht_base.specs.declared.reply.Answer.{Answer}
use Rattle.ht_base.specs.declared.reply.Answer.TheVariants as answer
use Rattle.ht_base.specs.declared.reply.Refusal.TheVariants as refusal
use Rattle.ht_base.specs.declared.retry.Retry.{Retry}
use Rattle.ht_base.specs.declared.task_id.TaskId.{TaskId}
use Rattle.ht_people.specs.Directory.{find}
use Rattle.ht_tree.specs.declared.slot.Kept.{Kept}
use Rattle.ht_tree.specs.declared.slot.Kept.TheVariants as kept
use Rattle.ht_tree.specs.declared.slot.Slot.{Slot}
use Rattle.ht_tree.specs.Plans.{PlanOf, keeping}
use Rattle.ht_tree.specs.Tables.{TablesOf, device_slot, directory, with_slot}
use Rattle.ht_machine.specs.declared.sending.Sending.{Sending}
use Rattle.ht_machine.specs.declared.sending.Sending.TheVariants.{New, Answered, Refused}

-- ---- what is known of a command

-- By the last command of its device: a later one is new, the same is answered as before, and an earlier
-- one and another under the same number are refused with the last number.
abbrev pub ByLast : ℕ → ℕ → Op → TaskId → Slot → Sending → Type 0
ByLast person number op task last (New who) = (last.number < number) × (who ≡ person)
ByLast person number op task last (Answered reply) = (number ≡ last.number) × (last.op ≡ op) × (last.task ≡ task) × (reply ≡ last.kept)
ByLast person number op task last (Refused why) =
    ((number < last.number) × (why ≡ refusal.NumberStale last.number))
    ⊎ ((number ≡ last.number) × ((last.op ≡ op) × (last.task ≡ task) → ⊥) × (why ≡ refusal.NumberReused last.number))

-- the first of a device is new
abbrev pub BySlot : ℕ → ℕ → Op → TaskId → Option Slot → Sending → Type 0
BySlot person number op task None sending = sending ≡ New person
BySlot person number op task (Some last) sending = ByLast person number op task last sending

-- and so is one without a number
abbrev pub ByNumber : TablesOf → ℕ → Op → TaskId → Option Retry → Sending → Type 0
ByNumber t person op task None sending = sending ≡ New person
ByNumber t person op task (Some r) sending = BySlot person r.number op task (device_slot t person r.device) sending

-- a caller must be a person
abbrev pub ByCaller : TablesOf → Op → TaskId → Option Retry → Option ℕ → Sending → Type 0
ByCaller t op task retry None sending = sending ≡ Refused refusal.Person
ByCaller t op task retry (Some person) sending = ByNumber t person op task retry sending

abbrev pub IsSent : TablesOf → List ℕ → Option Retry → Op → TaskId → Sending → Type 0
IsSent t caller retry op task sending = ByCaller t op task retry (find caller (directory t)) sending

-- the person of a new one is one of as many
abbrev pub IsWithin : ℕ → Sending → Type 0
IsWithin persons (New person) = person < persons
IsWithin persons _ = Unit {0}

-- ---- what is kept of one that is accepted

abbrev pub answer_of : Kept → Answer
answer_of (kept.Done task state owner) = answer.Done task state owner

abbrev pub slot_of : ℕ → Retry → Op → TaskId → Kept → Slot
slot_of person r op task reply = record { person = person; device = r.device; number = r.number; op = op; task = task; kept = reply }

-- the tables with the reply, if the command has a number
abbrev pub with_reply : TablesOf → ℕ → Option Retry → Op → TaskId → Kept → TablesOf
with_reply u person None op task reply = u
with_reply u person (Some r) op task reply = with_slot u (slot_of person r op task reply)

-- and a plan of them
abbrev pub keeping_reply : PlanOf → ℕ → Option Retry → Op → TaskId → Kept → PlanOf
keeping_reply p person None op task reply = p
keeping_reply p person (Some r) op task reply = keeping p (slot_of person r op task reply)

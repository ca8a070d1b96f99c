-- A command that is sent again acts once.
use Rattle.std.specs.Prelude.{◌≡◌, ◌⊎◌, ◌<◌, ℕ, List, [], ◌∷◌, length, Option, None, Some}
use Rattle.ht_base.specs.declared.event.Command.{Command}
use Rattle.ht_base.specs.declared.event.Event.{Event}
use Rattle.ht_base.specs.declared.event.Event.TheVariants.{Ask}
use Rattle.ht_base.specs.declared.moment.Moment.{Moment}
use Rattle.ht_base.specs.declared.record.Record.{Record}
use Rattle.ht_base.specs.declared.record.Record.TheVariants.{Asked}
use Rattle.ht_base.specs.declared.reply.Answer.{Answer}
use Rattle.ht_base.specs.declared.reply.Answer.TheVariants.{Refused}
use Rattle.ht_base.specs.declared.reply.Refusal.TheVariants as refusal
use Rattle.ht_base.specs.declared.reply.Reply.{Reply}
use Rattle.ht_base.specs.declared.retry.Retry.{Retry}
use Rattle.ht_base.specs.declared.task_id.TaskId.{TaskId}
use Rattle.ht_base.specs.Events.{op_of}
use Rattle.ht_base.specs.Ordered.{AscendBy}
use Rattle.ht_due.specs.declared.due.Due.{Due}
use Rattle.ht_machine.specs.Deciding.{Decides, kept_at, left_with, moment_of}
use Rattle.ht_machine.specs.History.{History, memory_reply}
use Rattle.ht_machine.specs.Sending.{answer_of}
use Rattle.ht_machine.specs.Turning.{IsTurn}
use Rattle.ht_people.specs.Directory.{find}
use Rattle.ht_tree.specs.declared.slot.Slot.{Slot}
use Rattle.ht_tree.specs.Slots.{slot_cmp}
use Rattle.ht_tree.specs.Tables.{TablesOf, device_slot, directory}

-- the slot is that of the last command of its device
abbrev pub IsLast : TablesOf → Slot → Type 0
IsLast t s = device_slot t s.person s.device ≡ Some s

-- the event is a command of this slot's device, under this number
abbrev pub IsOf : TablesOf → Slot → ℕ → Event → Type 0
IsOf t s number (Ask at caller retry task command) = (find caller (directory t) ≡ Some s.person) × (retry ≡ Some (record { device = s.device; number = number }))
IsOf t s number _ = ⊥

-- with the same operation and the same task
abbrev pub IsSame : Slot → Event → Type 0
IsSame s (Ask at caller retry task command) = (s.op ≡ op_of command) × (s.task ≡ task)
IsSame s _ = ⊥

-- ---- one event

-- the event leaves what the turn before it leaves, and nothing else
pub record IsTurnAlone (t : TablesOf) (e : Event) (left : Option Record) (after : TablesOf) : Type 0 where
  pub turned : TablesOf
  pub dues : List Due
  pub turn : IsTurn (moment_of t e) t dues turned
  pub left_is : left ≡ left_with (moment_of t e) (length dues) None
  pub after_is : after ≡ kept_at left turned

-- what the last command of the event's device says of it
pub record ActsOnce (t : TablesOf) (e : Event) (left : Option Record) (answer : Answer) (after : TablesOf) : Type 0 where
  -- sent again it does nothing, and gets its first answer
  pub again : (s : Slot) → IsLast t s → IsOf t s s.number e → IsSame s e → IsTurnAlone t e left after × (answer ≡ answer_of s.kept)
  -- another command under its number is refused
  pub reused : (s : Slot) → IsLast t s → IsOf t s s.number e → (IsSame s e → ⊥) → IsTurnAlone t e left after × (answer ≡ Refused (refusal.NumberReused s.number))
  -- and so is one under an earlier number
  pub stale : (s : Slot) (number : ℕ) → IsLast t s → number < s.number → IsOf t s number e → IsTurnAlone t e left after × (answer ≡ Refused (refusal.NumberStale s.number))

-- ---- a history

-- a numbered command of a person's device is accepted at a moment: it leaves itself to be kept
abbrev pub Accepts : TablesOf → Moment → Moment → List ℕ → Retry → TaskId → Command → Reply → TablesOf → Type 0
Accepts t asked at caller r task command reply after =
    Decides t (Ask asked caller (Some r) task command) (Some (Asked at caller (Some r) task command)) reply after

-- a command was accepted with this reply, which this slot keeps
pub record IsAccepted (t : TablesOf) (caller : List ℕ) (r : Retry) (task : TaskId) (command : Command) (answer : Answer) (s : Slot) : Type 0 where
  pub person : find caller (directory t) ≡ Some s.person
  pub device : s.device ≡ r.device
  pub number : s.number ≡ r.number
  pub op : s.op ≡ op_of command
  pub task_is : s.task ≡ task
  pub reply : answer ≡ answer_of s.kept

-- the device has this slot still, or one of a later command
pub record IsSince (s : Slot) (t : TablesOf) : Type 0 where
  pub last : Slot
  pub there : device_slot t s.person s.device ≡ Some last
  pub later : (last ≡ s) ⊎ (s.number < last.number)
  -- as in all tables that are sound
  pub ordered : AscendBy slot_cmp t.slots

-- the event does nothing, after the turn before it
abbrev pub DoesNothing : TablesOf → Event → TablesOf → Type 0
DoesNothing t e after = (left : Option Record) × IsTurnAlone t e left after

-- the last command of the slot's device is a later one, and the answer tells its number
pub record IsOvertaken (s : Slot) (t : TablesOf) (answer : Answer) : Type 0 where
  pub last : Slot
  pub there : device_slot t s.person s.device ≡ Some last
  pub later : s.number < last.number
  pub told : answer ≡ Refused (refusal.NumberStale last.number)

-- Wherever the slot's command is sent again, it does nothing, and gets its first answer, or is refused since
-- a later one was accepted. For want of memory nothing changes at all.
abbrev pub IsRepeat : Slot → TablesOf → Event → TablesOf → Answer → Type 0
IsRepeat s t e after answer =
    (DoesNothing t e after × (answer ≡ answer_of s.kept))
    ⊎ (DoesNothing t e after × IsOvertaken s t answer)
    ⊎ ((after ≡ t) × (answer ≡ memory_reply.answer))

abbrev pub Remembers : Slot → TablesOf → History → Type 0
Remembers s t [] = Unit {0}
Remembers s t (e ∷ es) = (IsOf t s s.number e.event → IsSame s e.event → IsRepeat s t e.event e.after (e.reply).answer) × Remembers s e.after es

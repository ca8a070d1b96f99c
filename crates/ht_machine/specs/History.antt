-- Histories of the task machine, and the records that they leave.
use Rattle.std.specs.Prelude.{◌≡◌, ◌⊎◌, List, [], ◌∷◌, None, Option, Some}
use Rattle.ht_base.specs.declared.event.Event.{Event}
use Rattle.ht_base.specs.declared.event.Event.TheVariants.{Ask, Turn}
use Rattle.ht_base.specs.declared.moment.Moment.{Moment}
use Rattle.ht_base.specs.declared.record.Record.{Record}
use Rattle.ht_base.specs.declared.record.Record.TheVariants as record_of
use Rattle.ht_base.specs.declared.reply.Answer.TheVariants.{Refused}
use Rattle.ht_base.specs.declared.reply.Refusal.TheVariants as refusal
use Rattle.ht_base.specs.declared.reply.Reply.{Reply}
use Rattle.ht_base.specs.History.{Entry, IsLegal}
use Rattle.ht_machine.specs.Deciding.{Decides, reply_of}
use Rattle.ht_tree.specs.Tables.{TablesOf}

-- there is not enough memory
abbrev pub memory_reply : Reply
memory_reply = reply_of (Refused refusal.Memory)

-- One step of the machine: what it decides of an event, or, for want of memory, nothing.
abbrev pub IsStep : TablesOf → Event → Reply → TablesOf → Type 0
IsStep old event reply new =
    ((left : Option Record) × Decides old event left reply new) ⊎ ((reply ≡ memory_reply) × (new ≡ old))

abbrev pub History : Type 0
History = List (Entry TablesOf Event Reply)

abbrev pub IsHistory : TablesOf → History → Type 0
IsHistory old history = IsLegal IsStep old history

-- ---- records

-- as what an event is kept that acted at a moment: a command as one, and what was due as a turn
abbrev pub record_at : Event → Moment → Record
record_at (Ask asked caller retry task command) at = record_of.Asked at caller retry task command
record_at e at = record_of.Turn at

-- what an event leaves that acted at a moment, where it leaves anything: that something was due by then, or
-- itself as a command
abbrev pub IsLeftAt : Moment → Event → Record → Type 0
IsLeftAt at e r = (r ≡ record_of.Turn at) ⊎ (r ≡ record_at e at)

-- the event that a record is kept of, but for the first
abbrev pub event_of : Record → Option Event
event_of (record_of.Opening models people) = None
event_of (record_of.Turn at) = Some (Turn at)
event_of (record_of.Asked at caller retry task command) = Some (Ask at caller retry task command)

-- It is applied to tables: its event leaves just this record.
abbrev pub Applies : TablesOf → Record → TablesOf → Type 0
Applies old r new = (e : Event) × (reply : Reply) × (event_of r ≡ Some e) × Decides old e (Some r) reply new

-- one after another
abbrev pub Replays : TablesOf → List Record → TablesOf → Type 0
Replays old [] new = new ≡ old
Replays old (r ∷ rs) new = (mid : TablesOf) × Applies old r mid × Replays mid rs new

-- What is ready to be kept.
use Rattle.std.specs.Prelude.{◌≡◌, ℕ, List, Option, Some, None}
use Rattle.ht_base.specs.Bytes.{BytesOf}
use Rattle.ht_base.specs.declared.event.Event.{Event}
use Rattle.ht_base.specs.declared.record.Record.{Record}
use Rattle.ht_base.specs.declared.reply.Reply.{Reply}
use Rattle.ht_base.specs.Records.{record_of}
use Rattle.ht_desk.specs.declared.doubt.Doubt.{Doubt}
use Rattle.ht_desk.specs.declared.entry.Entry.{Entry}
use Rattle.ht_desk.specs.declared.entry.Staged.{Staged}
use Rattle.ht_desk.specs.Keeping.{Awaits}
use Rattle.ht_desk.specs.Records.{spelling}
use Rattle.ht_machine.specs.Deciding.{Decides}
use Rattle.ht_tree.specs.Plans.{committed}
use Rattle.ht_tree.specs.Tables.{RoomyTables, TablesOf}

-- The body spells the record that the machine leaves of the event, and the plan makes the tables after it.
pub record IsEntryOf (t : RoomyTables) (e : Event) (reply : Reply) (r : Record) (body : BytesOf) (doubt : Doubt) : Type 0 where
  pub decides : Decides t.tables e (Some r) reply (committed t.tables doubt.plan doubt.at.0)
  pub body_is : body.items ≡ spelling (record_of r)
  pub awaits : Awaits t doubt (record_of r)

-- there is an entry exactly where the machine leaves a record
abbrev pub IsStagedAs : RoomyTables → Event → Reply → Option Entry → Type 0
IsStagedAs t e reply None = (u : TablesOf) × Decides t.tables e None reply u
IsStagedAs t e reply (Some entry) = (r : Record) × IsEntryOf t e reply r entry.body entry.doubt

abbrev pub IsStaged : RoomyTables → Event → Staged → Type 0
IsStaged t e staged = IsStagedAs t e staged.reply staged.entry

-- what is remembered where a body is in doubt
abbrev pub noted : Option (List ℕ) → Doubt → Option Doubt
noted None doubt = None
noted (Some body) doubt = Some doubt

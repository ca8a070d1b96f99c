-- What an event leaves and is answered, on given tables.
use Rattle.std.specs.Prelude.{◌≡◌, ℕ, zero, suc, max, List, length, Option, Some, None, IfSome, IsSome}
use Rattle.ht_base.specs.declared.event.Command.{Command}
use Rattle.ht_base.specs.declared.event.Event.{Event}
use Rattle.ht_base.specs.declared.event.Event.TheVariants.{Ask, Read, Turn}
use Rattle.ht_base.specs.declared.query.Query.{Query}
use Rattle.ht_base.specs.declared.query.Query.TheVariants as query
use Rattle.ht_base.specs.declared.operation.Op.{Op}
use Rattle.ht_base.specs.declared.operation.Op.TheVariants as op
use Rattle.ht_base.specs.declared.record.Record.{Record}
use Rattle.ht_base.specs.declared.record.Record.TheVariants as record_of
use Rattle.ht_base.specs.declared.record.Record.TheVariants.{Asked, Opening}
use Rattle.ht_base.specs.declared.reply.Answer.{Answer}
use Rattle.ht_base.specs.declared.reply.Answer.TheVariants.{Notices, Page, Refused, Sheet, Turned}
use Rattle.ht_base.specs.declared.reply.Refusal.TheVariants as refusal
use Rattle.ht_base.specs.declared.reply.Reply.{Reply}
use Rattle.ht_base.specs.declared.retry.Retry.{Retry}
use Rattle.ht_base.specs.declared.task_id.TaskId.{TaskId}
use Rattle.ht_base.specs.Events.{op_of}
use Rattle.ht_due.specs.declared.due.Due.{Due}
use Rattle.ht_people.specs.Directory.{DirectoryOf, find}
use Rattle.ht_tree.specs.declared.row.Row.{Row}
use Rattle.ht_tree.specs.declared.slot.Kept.{Kept}
use Rattle.ht_tree.specs.declared.slot.Kept.TheVariants as reply
use Rattle.ht_tree.specs.Tables.{TablesOf, at_moment, directory, task_row}
use Rattle.ht_lists.specs.Lists.{notice_page_of, page_of}
use Rattle.ht_lists.specs.Naming.{name_or_none}
use Rattle.ht_lists.specs.Sheets.{sheet_of}
use Rattle.ht_machine.specs.Commands.{Comes, Consequence, accepted, refused}
use Rattle.ht_machine.specs.Gate.{Gate, gate, opens, shuts}
use Rattle.ht_machine.specs.declared.sending.Sending.{Sending}
use Rattle.ht_machine.specs.declared.sending.Sending.TheVariants as sending
use Rattle.ht_machine.specs.declared.sending.Sending.TheVariants.{New, Answered}
use Rattle.ht_machine.specs.Sending.{IsSent, answer_of, with_reply}
use Rattle.ht_machine.specs.Turning.{IsTurn}

-- the moment at which an event acts: its own, and never before the last record
abbrev pub effective : TablesOf → ℕ → ℕ
effective t at = max at t.last

abbrev pub reply_of : Answer → Reply
reply_of answer = record { taken = 0; answer = answer }

-- nothing changes, and nothing is kept
abbrev pub IsIdle : TablesOf → Option Record → TablesOf → Type 0
IsIdle t left after = (left ≡ None) × (after ≡ t)

-- ---- commands

-- a task's state and its owner
abbrev pub done : DirectoryOf → Row → Kept
done d row = reply.Done row.task row.state (name_or_none d row.owner)

-- the reply shows a task of these tables
abbrev pub Shows : TablesOf → ℕ → Kept → Type 0
Shows u task reply = (row : Row) × (task_row u task ≡ Some row) × (reply ≡ done (directory u) row)

-- its owner, if there is one, is a person
abbrev pub NamesOwner : DirectoryOf → Kept → Type 0
NamesOwner d (reply.Done task state owner) = IfSome owner (λ name. IsSome (find name d))

-- Of a new command of a person: what is accepted leaves its record, the reply shows the task in the tables
-- after it, and where the command has a number the reply is kept too.
abbrev pub Settles : TablesOf → ℕ → Option Retry → Op → TaskId → Record → Consequence → Option Record → Answer → TablesOf → Type 0
Settles t person retry op task asked (accepted u about) left answer after =
    (reply : Kept) × Shows u about reply × (left ≡ Some asked) × (after ≡ with_reply u person retry op task reply) × (answer ≡ answer_of reply)
Settles t person retry op task asked (refused why) left answer after = IsIdle t left after × (answer ≡ Refused why)

-- A command that acts at a moment, as which it is kept: a new one leads to what comes of it, and another
-- to its first answer or to a refusal.
abbrev pub AsksAs : TablesOf → ℕ → Option Retry → TaskId → Command → Record → Sending → Option Record → Answer → TablesOf → Type 0
AsksAs t moment retry task command asked (New person) left answer after =
    (o : Consequence) × Comes t person moment task.0 command o × Settles t person retry (op_of command) task asked o left answer after
AsksAs t moment retry task command asked (Answered reply) left answer after = IsIdle t left after × (answer ≡ answer_of reply)
AsksAs t moment retry task command asked (sending.Refused why) left answer after = IsIdle t left after × (answer ≡ Refused why)

pub record Asks (t : TablesOf) (moment : ℕ) (caller : List ℕ) (retry : Option Retry) (task : TaskId) (command : Command) (left : Option Record) (answer : Answer) (after : TablesOf) : Type 0 where
  pub sending : Sending
  pub sent : IsSent t caller retry (op_of command) task sending
  pub asks : AsksAs t moment retry task command (Asked (record { 0 = moment }) caller retry task command) sending left answer after

-- ---- reads

-- the sheet of a task is shown to those who may see the task
abbrev pub sheet_behind : TablesOf → Gate → Answer
sheet_behind t (opens row) = Sheet (sheet_of t row)
sheet_behind t (shuts why) = Refused why

-- Lists have just what is the person's, so there is nothing to refuse but a caller who is no person.
abbrev pub shown_to : TablesOf → Query → Option ℕ → Answer
shown_to t what None = Refused refusal.Person
shown_to t (query.Sheet task) (Some person) = sheet_behind t (gate t op.Get person task.0)
shown_to t (query.Tasks role which from count) (Some person) = Page (page_of t person role which from count)
shown_to t (query.Notices from count) (Some person) = Notices (notice_page_of t person from count)

-- ---- what is due before

-- what is done on tables: the record that it leaves, the answer, and the tables after it
abbrev pub Doing : Type 1
Doing = TablesOf → Option Record → Answer → TablesOf → Type 0

-- nothing, but for what was due
abbrev pub Rests : Doing
Rests u left answer after = IsIdle u left after × (answer ≡ Turned)

-- where it leaves no record, one tells that something was due, if it was
abbrev pub left_with : ℕ → ℕ → Option Record → Option Record
left_with moment taken (Some left) = Some left
left_with moment zero None = None
left_with moment (suc n) None = Some (record_of.Turn (record { 0 = moment }))

-- where a record is left, its moment becomes the last one
abbrev pub last_after : TablesOf → Option Record → ℕ
last_after t None = t.last
last_after t (Some (Opening models people)) = t.last
last_after t (Some (record_of.Turn at)) = at.0
last_after t (Some (Asked at caller retry task command)) = at.0

abbrev pub kept_at : Option Record → TablesOf → TablesOf
kept_at left u = at_moment u (last_after u left)

-- All that is due by the moment is taken. Then this is done, on the tables that it leaves.
pub record Behind (t : TablesOf) (moment : ℕ) (Does : Doing) (left : Option Record) (reply : Reply) (after : TablesOf) : Type 0 where
  pub turned : TablesOf
  pub dues : List Due
  pub turn : IsTurn moment t dues turned
  pub taken : reply.taken ≡ length dues
  pub own : Option Record
  pub acted : TablesOf
  pub does : Does turned own reply.answer acted
  pub left_is : left ≡ left_with moment (length dues) own
  pub after_is : after ≡ kept_at left acted

-- ---- events

-- the moment at which an event acts
abbrev pub moment_of : TablesOf → Event → ℕ
moment_of t (Turn at) = effective t at.0
moment_of t (Ask at caller retry task command) = effective t at.0
moment_of t (Read caller what) = t.last

-- A turn does no more than what is due, and a command acts behind that. A read takes nothing that is due, and
-- is answered on the tables as they stand.
abbrev pub Decides : TablesOf → Event → Option Record → Reply → TablesOf → Type 0
Decides t (Turn at) left reply after = Behind t (effective t at.0) Rests left reply after
Decides t (Ask at caller retry task command) left reply after = Behind t (effective t at.0) (λ u. Asks u (effective t at.0) caller retry task command) left reply after
Decides t (Read caller what) left reply after = IsIdle t left after × (reply ≡ reply_of (shown_to t what (find caller (directory t))))

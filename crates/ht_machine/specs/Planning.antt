-- That a plan makes what is decided.
use Rattle.std.specs.Prelude.{◌≡◌, ◌==◌, ◌≤◌, ℕ, Bool, false, List, Option, Some, None, IfSome, Result, Ok, Err}
use Rattle.ht_base.specs.declared.event.Command.{Command}
use Rattle.ht_base.specs.declared.event.Event.{Event}
use Rattle.ht_base.specs.declared.event.Event.TheVariants as event
use Rattle.ht_base.specs.declared.moment.Moment.{Moment}
use Rattle.ht_base.specs.declared.record.Record.{Record}
use Rattle.ht_base.specs.declared.record.Record.TheVariants.{Asked, Turn}
use Rattle.ht_base.specs.declared.reply.Answer.{Answer}
use Rattle.ht_base.specs.declared.reply.Answer.TheVariants.{Refused}
use Rattle.ht_base.specs.declared.reply.Limit.TheVariants.{Tasks}
use Rattle.ht_base.specs.declared.reply.Refusal.TheVariants as refusal
use Rattle.ht_base.specs.declared.reply.Unknown.TheVariants as unknown
use Rattle.ht_base.specs.declared.reply.Reply.{Reply}
use Rattle.ht_base.specs.declared.retry.Retry.{Retry}
use Rattle.ht_base.specs.declared.task_id.TaskId.{TaskId}
use Rattle.ht_base.specs.Events.{IsCommand, IsRetry, IsTaskOf}
use Rattle.ht_base.specs.Moment.{last_moment}
use Rattle.ht_owner.specs.declared.refusal.ActRefusal.{ActRefusal}
use Rattle.ht_owner.specs.declared.refusal.ActRefusal.TheVariants as why
use Rattle.ht_tree.specs.declared.creating.CreateRefusal.{CreateRefusal}
use Rattle.ht_tree.specs.declared.creating.CreateRefusal.TheVariants as create
use Rattle.ht_tree.specs.declared.row.Row.{Row}
use Rattle.ht_tree.specs.Plans.{Goes, IsPlanOf, IsPrepared, PlanOf, committed, planned}
use Rattle.ht_tree.specs.Soundness.{IsSound, KeepsSound}
use Rattle.ht_tree.specs.Tables.{RoomyTables, TablesOf, model_named, task_row}
use Rattle.ht_machine.specs.declared.answering.Response.{Response}
use Rattle.ht_machine.specs.declared.answering.Response.TheVariants as response
use Rattle.ht_machine.specs.declared.asking.CommandAt.{CommandAt}
use Rattle.ht_machine.specs.declared.deciding.Decision.{Decision}
use Rattle.ht_machine.specs.Commands.{ActivatesUnless, Consequence, accepted, refused}
use Rattle.ht_machine.specs.declared.leaving.Left.{Left}
use Rattle.ht_machine.specs.declared.leaving.Left.TheVariants as left
use Rattle.ht_machine.specs.declared.sending.Sending.TheVariants.{New}
use Rattle.ht_machine.specs.Deciding.{Asks, AsksAs, Behind, Decides, last_after}
use Rattle.ht_machine.specs.History.{record_at}
use Rattle.ht_machine.specs.Sending.{answer_of}

-- ---- commands

-- the plan goes on to tables that may come of a command, with the task that it is about
pub record Does (t : TablesOf) (old new : PlanOf) (May : Consequence → Type 0) (task : TaskId) : Type 0 where
  pub after : TablesOf
  pub comes : May (accepted after task.0)
  pub goes : Goes t old new (planned t old) after
  pub sound : KeepsSound (planned t old) after
  pub row : Row
  pub there : task_row after task.0 ≡ Some row

-- or it is refused, and the plan can go back to its mark
abbrev pub Tries : TablesOf → PlanOf → PlanOf → (Consequence → Type 0) → Result TaskId ActRefusal → Type 0
Tries t old new May (Ok task) = Does t old new May task
Tries t old new May (Err (why.Refused other)) = May (refused other) × (new.marked ≡ old.marked)
Tries t old new May (Err why.Memory) = Unit {0}

-- the place of the model that a create names, or of the first
abbrev pub Finds : TablesOf → Option (List ℕ) → Result ℕ ActRefusal → Type 0
Finds t None (Ok place) = place ≡ 0
Finds t None (Err other) = ⊥
Finds t (Some name) (Ok place) = model_named t name ≡ Some place
Finds t (Some name) (Err (why.Refused other)) = (model_named t name ≡ None) × (other ≡ refusal.Unknown (unknown.Model name))
Finds t (Some name) (Err why.Memory) = ⊥

-- why no task is created, as a refusal of the command
abbrev pub refusal_of : CreateRefusal → ActRefusal
refusal_of create.Memory = why.Memory
refusal_of create.TaskLimit = why.Refused (refusal.Limit Tasks)

-- a new task is activated, unless it waits
pub record IsActivated (t : TablesOf) (old new : PlanOf) (at : Moment) (waits : Option Moment) (task : ℕ) : Type 0 where
  pub after : TablesOf
  pub activates : ActivatesUnless at waits task (planned t old) after
  pub goes : Goes t old new (planned t old) after
  pub sound : IsSound after
  pub row : Row
  pub there : task_row after task ≡ Some row

-- ---- decisions

-- a command as it is asked is valid
pub record IsAsked (a : CommandAt) : Type 0 where
  pub within : a.at.0 ≤ last_moment
  pub retry : IfSome a.retry IsRetry
  pub task : IsTaskOf a.command.now a.task
  pub command : IsCommand a.command.now

-- as what a command is kept, at a moment and at its own
abbrev pub record_as : CommandAt → Moment → Record
record_as a at = record_at (event.Ask a.at a.caller a.retry a.task a.command.now) at

abbrev pub record_of : CommandAt → Record
record_of a = record_as a a.at

-- the record that a command leaves itself, by how it is answered, and its answer
abbrev pub record_left : CommandAt → Response → Option Record
record_left a (response.Accepted kept) = Some (record_of a)
record_left a _ = None

abbrev pub answer_given : Response → Answer
answer_given (response.Accepted kept) = answer_of kept
answer_given (response.Answered kept) = answer_of kept
answer_given (response.Refused other) = Refused other

-- the record of what an event left, by that of a command which was accepted at a moment
abbrev pub record_by : (Moment → Record) → Left → Option Record
record_by make left.Nothing = None
record_by make (left.Turned at) = Some (Turn at)
record_by make (left.Commanded at) = Some (make at)

abbrev pub record_in : Event → Left → Option Record
record_in e l = record_by (record_at e) l

-- which is just this record, where that is of the event: it is of the same kind and moment
abbrev pub is_of : Left → Record → Bool
is_of (left.Turned by) (Turn at) = by.0 == at.0
is_of (left.Commanded by) (Turn at) = by.0 == at.0
is_of (left.Commanded by) (Asked at caller retry task command) = by.0 == at.0
is_of l kept = false

-- the plan makes these tables, where this record is left, whose moment is no earlier than the last one
pub record Makes (t : TablesOf) (p : PlanOf) (left : Option Record) (u : TablesOf) : Type 0 where
  pub fits : IsPlanOf t p
  pub makes : planned t p ≡ u
  pub sound : IsSound u
  pub later : t.last ≤ last_after t left
  pub within : last_after t left ≤ last_moment

-- the plan makes the tables after what leaves this record; they are sound, and no earlier
pub record Leaves (t : TablesOf) (p : PlanOf) (left : Option Record) (after : TablesOf) : Type 0 where
  pub fits : IsPlanOf t p
  pub makes : committed t p (last_after t left) ≡ after
  pub sound : IsSound after
  pub later : t.last ≤ last_after t left

-- so it does of an event
pub record Plans (t : TablesOf) (p : PlanOf) (e : Event) (left : Option Record) (reply : Reply) : Type 0 where
  pub after : TablesOf
  pub decides : Decides t e left reply after
  pub leaves : Leaves t p left after

-- and from an earlier plan on of a command at a moment
pub record PlansAsk (t : TablesOf) (old new : PlanOf) (moment : ℕ) (caller : List ℕ) (retry : Option Retry) (task : TaskId) (command : Command) (left : Option Record) (answer : Answer) : Type 0 where
  pub after : TablesOf
  pub asks : Asks (planned t old) moment caller retry task command left answer after
  pub makes : Makes t new left after

-- and of all that is due before it
pub record PlansBehindTurn (t : TablesOf) (p : PlanOf) (a : CommandAt) (left : Option Record) (reply : Reply) : Type 0 where
  pub after : TablesOf
  pub decides : Behind t a.at.0 (λ u. Asks u a.at.0 a.caller a.retry a.task a.command.now) left reply after
  pub leaves : Leaves t p left after

-- a new one of a person, which is kept as this record
pub record PlansNew (t : TablesOf) (old new : PlanOf) (moment person : ℕ) (retry : Option Retry) (task : TaskId) (command : Command) (asked : Record) (left : Option Record) (answer : Answer) : Type 0 where
  pub after : TablesOf
  pub asks : AsksAs (planned t old) moment retry task command asked (New person) left answer after
  pub makes : Makes t new left after

-- the earlier plan is marked, and keeps no reply yet
pub record IsReady (t : TablesOf) (p : PlanOf) : Type 0 where
  pub fits : IsPlanOf t p
  pub sound : IsSound (planned t p)
  pub marked : p.marked ≡ p.changes
  pub fresh : (p.changes).slot ≡ None

-- what is decided of an event, on tables that are prepared for its plan
pub record IsDecided (t : RoomyTables) (e : Event) (d : Decision) : Type 0 where
  pub after : TablesOf
  pub decides : Decides t.tables e d.left d.reply after
  pub leaves : Leaves t.tables d.plan d.left after
  pub prepared : IsPrepared t d.plan

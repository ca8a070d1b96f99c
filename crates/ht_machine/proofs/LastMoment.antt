-- What is taken, and what comes of a command, is the same whatever the moment of the last record was.
use Rattle.ht_models.specs.Contradictions.{is_automatic}
use Rattle.std.proofs.Common.{◌≡◌, ℕ, zero, suc, List, [], ◌∷◌, Option, None, Some, if◌then◌else◌, refl, ap, ◌∙◌}
use Rattle.ht_base.specs.declared.event.Command.{Command}
use Rattle.ht_base.specs.declared.event.Command.TheVariants as command
use Rattle.ht_base.specs.declared.moment.Moment.{Moment}
use Rattle.ht_base.specs.declared.operation.Op.{Op}
use Rattle.ht_base.specs.declared.parts.Parts.{Parts}
use Rattle.ht_base.specs.declared.record.Record.{Record}
use Rattle.ht_base.specs.declared.record.Record.TheVariants.{Asked}
use Rattle.ht_base.specs.declared.reply.Answer.{Answer}
use Rattle.ht_base.specs.declared.retry.Retry.{Retry}
use Rattle.ht_base.specs.declared.task_id.TaskId.{TaskId}
use Rattle.ht_base.specs.Events.{op_of}
use Rattle.ht_compose.proofs.PublicLaws.{ends_at_moment, frees_at_moment}
use Rattle.ht_compose.specs.Downward.{freed}
use Rattle.ht_compose.specs.Finishes.{chosen}
use Rattle.ht_compose.specs.Gathering.{GathersBy}
use Rattle.ht_compose.specs.Items.Item.{Activate, Begin, Close, Make}
use Rattle.ht_due.specs.declared.due.Due.{Due}
use Rattle.ht_escalate.proofs.PublicLaws.{takes_at_moment}
use Rattle.ht_machine.specs.declared.sending.Sending.{Sending}
use Rattle.ht_machine.specs.declared.sending.Sending.TheVariants as sending
use Rattle.ht_machine.specs.declared.sending.Sending.TheVariants.{New, Answered}
use Rattle.ht_machine.specs.Commands.{ActivatesUnless, ActsOn, AfterEffect, BehindGate, Comes, Creates, DoesOn, GathersFirst, HasEffect, MakesEntry, Consequence, accepted, new_task, refused, waits_until}
use Rattle.ht_machine.specs.Deciding.{Asks, AsksAs, Settles}
use Rattle.ht_machine.specs.Following.{Spreads}
use Rattle.ht_machine.specs.Gate.{Gate, gate, opens, shuts}
use Rattle.ht_machine.specs.Sending.{with_reply}
use Rattle.ht_machine.specs.Turning.{IsTurn, Takes, TakesKind, Takings}
use Rattle.ht_machine.specs.Turning.Takings.{end, on}
use Rattle.ht_models.specs.Model.{FinishOf, ModelOf}
use Rattle.ht_owner.specs.declared.follow.Follow.{Follow}
use Rattle.ht_owner.specs.declared.follow.Follow.TheVariants as follow
use Rattle.ht_owner.specs.declared.follow.Follow.TheVariants.{Began, Freed, Held, Nothing}
use Rattle.ht_owner.specs.Effects.{Effect, does, effect, refuses}
use Rattle.ht_tree.specs.declared.row.Row.{Row}
use Rattle.ht_tree.specs.declared.slot.Kept.{Kept}
use Rattle.ht_tree.specs.Tables.{TablesOf, at_moment, with_row}

module _ (last : ℕ) where
  abbrev with_last : TablesOf → TablesOf
  with_last u = at_moment u last

  -- ---- turns

  takes : (u v : TablesOf) (due : Due) → Takes u due v → Takes (with_last u) due (with_last v)
  takes u v due is = go due.kind is
    where
      go : (k : ℕ) → TakesKind k due.at due.task.0 due.place u v → TakesKind k due.at due.task.0 due.place (with_last u) (with_last v)
      go zero ends = ends_at_moment due.at u v (Activate due.task.0 ∷ []) ends last
      go (suc zero) (row, there, frees) = (row, there, frees_at_moment due.at due.task.0 (with_row u (freed row)) v frees last)
      go (suc (suc n)) is = takes_at_moment due.at due.task.0 due.place last u v is

  takings : (by : ℕ) (u v : TablesOf) (ds : List Due) → Takings by u ds v → Takings by (with_last u) ds (with_last v)
  takings by u v [] end = end
  takings by u v (d ∷ ds) (on {v = w} first is rest) = on first (takes u w d is) (takings by w v ds rest)

  pub turn_with_last : (by : ℕ) (u v : TablesOf) (ds : List Due) → IsTurn by u ds v → IsTurn by (with_last u) ds (with_last v)
  turn_with_last by u v ds turn = record { takings = takings by u v ds turn.takings; ended = turn.ended }

  -- ---- commands

  abbrev then_with_last : Consequence → Consequence
  then_with_last (accepted v task) = accepted (with_last v) task
  then_with_last (refused why) = refused why

  activates : (at : Moment) (waits : Option Moment) (task : ℕ) (u v : TablesOf) → ActivatesUnless at waits task u v → ActivatesUnless at waits task (with_last u) (with_last v)
  activates at None task u v ends = ends_at_moment at u v (Activate task ∷ []) ends last
  activates at (Some m) task u v is = ap with_last is

  spreads : (at : Moment) (f : Follow) (task : ℕ) (u v : TablesOf) → Spreads at f task u v → Spreads at f task (with_last u) (with_last v)
  spreads at Nothing task u v is = ap with_last is
  spreads at Began task u v ends = ends_at_moment at u v (Begin task ∷ []) ends last
  spreads at follow.Activate task u v ends = ends_at_moment at u v (Activate task ∷ []) ends last
  spreads at Held task u v is = ap with_last is
  spreads at Freed task u v frees = frees_at_moment at task u v frees last
  spreads at (follow.Close state) task u v ends = ends_at_moment at u v (Close task state ∷ []) ends last

  gathers_by : (u : TablesOf) (row : Row) (m : ModelOf) (o : Option FinishOf) (v : TablesOf) → GathersBy u row m o v → GathersBy (with_last u) row m o (with_last v)
  gathers_by u row m None v is = ap with_last is
  gathers_by u row m (Some f) v (output, has, is) = (output, has, ap with_last is)

  gathers_first : (c : Command) (task : ℕ) (u v : TablesOf) → GathersFirst c task u v → GathersFirst c task (with_last u) (with_last v)
  gathers_first (command.Complete output) task u v (row, m, there, of, by) = (row, m, there, of, gathers_by u row m (if is_automatic m.completion then None else chosen u.rows m row) v by)
  gathers_first c task u v is = ap with_last is

  module _ (u : TablesOf) (caller moment : ℕ) where
    abbrev now : Moment
    now = record { 0 = moment }

    creates : (model : Option (List ℕ)) (input : Parts) (waits : Option Moment) (o : Consequence) → Creates u caller moment model input waits o → Creates (with_last u) caller moment model input waits (then_with_last o)
    creates model input waits (accepted v task) (fine, place, m, at, of, number, act) = (fine, place, m, at, of, number, activates now waits task (with_row u (new_task u caller moment place input waits m)) v act)
    creates model input waits (refused why) is = is

    makes : (task : ℕ) (name : List ℕ) (entry : Option ℕ) (o : Consequence) → MakesEntry u moment task name entry o → MakesEntry (with_last u) moment task name entry (then_with_last o)
    makes task name None o is = ap then_with_last is
    makes task name (Some entry) (accepted v about) (ends, is) = (ends_at_moment now u v (Make task entry ∷ []) ends last, is)
    makes task name (Some entry) (refused why) is = absurd is

    after_effect : (task : ℕ) (e : Effect) (o : Consequence) → AfterEffect u moment task e o → AfterEffect (with_last u) moment task e (then_with_last o)
    after_effect task (does row f) (accepted v about) (is, same) = (spreads now f task (with_row u row) v is, same)
    after_effect task (does row f) (refused why) is = absurd is
    after_effect task (refuses why) o is = ap then_with_last is

    has_effect : (task : ℕ) (c : Command) (o : Consequence) → HasEffect u caller moment task c o → HasEffect (with_last u) caller moment task c (then_with_last o)
    has_effect task c o (row, m, there, of, is) = (row, m, there, of, after_effect task (effect u m caller now c row) o is)

  does_on : (u : TablesOf) (caller moment task : ℕ) (c : Command) (o : Consequence) → DoesOn u caller moment task c o → DoesOn (with_last u) caller moment task c (then_with_last o)
  does_on u caller moment task (command.InstantiateSubTask name) o (entry, is, made) = (entry, is, makes u caller moment task name entry o made)
  does_on u caller moment task c o is = (with_last is.0, gathers_first c task u is.0 is.1, has_effect is.0 caller moment task c o is.2)

  acts_on : (u : TablesOf) (caller moment task : ℕ) (c : Command) (o : Consequence) → ActsOn u caller moment task c o → ActsOn (with_last u) caller moment task c (then_with_last o)
  acts_on u caller moment task c o = behind (gate u (op_of c) caller task)
    where
      behind : (g : Gate) → BehindGate u caller moment task c g o → BehindGate (with_last u) caller moment task c g (then_with_last o)
      behind (opens row) is = does_on u caller moment task c o is
      behind (shuts why) is = ap then_with_last is

  comes : (u : TablesOf) (caller moment task : ℕ) (c : Command) (o : Consequence) → Comes u caller moment task c o → Comes (with_last u) caller moment task c (then_with_last o)
  comes u caller moment task (command.Create model input activate_at) o is = creates u caller moment model input (waits_until moment activate_at) o is
  comes u caller moment task c o is = acts_on u caller moment task c o is

  -- ---- events

  replied : (u : TablesOf) (person : ℕ) (retry : Option Retry) (op : Op) (task : TaskId) (reply : Kept) → with_last (with_reply u person retry op task reply) ≡ with_last (with_reply (with_last u) person retry op task reply)
  replied u person None op task reply = refl
  replied u person (Some r) op task reply = refl

  -- the tables after it, but for the moment
  abbrev Meets : (TablesOf → Type 0) → TablesOf → Type 0
  Meets Left after = (other : TablesOf) × Left other × (with_last after ≡ with_last other)

  settles : (u : TablesOf) (person : ℕ) (retry : Option Retry) (op : Op) (task : TaskId) (asked : Record) (o : Consequence) (left : Option Record) (answer : Answer) (after : TablesOf) → Settles u person retry op task asked o left answer after → Meets (Settles (with_last u) person retry op task asked (then_with_last o) left answer) after
  settles u person retry op task asked (accepted v about) left answer after (reply, shows, kept, is, told) =
      let other = with_reply (with_last v) person retry op task reply in
      (other, (reply, shows, kept, refl, told), ap with_last is ∙ replied v person retry op task reply)
  settles u person retry op task asked (refused why) left answer after ((none, is), told) = (with_last u, ((none, refl), told), ap with_last is)

  asks_as : (u : TablesOf) (moment : ℕ) (retry : Option Retry) (task : TaskId) (c : Command) (asked : Record) (known : Sending) (left : Option Record) (answer : Answer) (after : TablesOf) → AsksAs u moment retry task c asked known left answer after → Meets (AsksAs (with_last u) moment retry task c asked known left answer) after
  asks_as u moment retry task c asked (New person) left answer after (o, is, settled) =
      let found = settles u person retry (op_of c) task asked o left answer after settled in
      (found.0, (then_with_last o, comes u person moment task.0 c o is, found.1), found.2)
  asks_as u moment retry task c asked (Answered reply) left answer after ((none, is), told) = (with_last u, ((none, refl), told), ap with_last is)
  asks_as u moment retry task c asked (sending.Refused why) left answer after ((none, is), told) = (with_last u, ((none, refl), told), ap with_last is)

  pub asks_with_last : (u : TablesOf) (moment : ℕ) (caller : List ℕ) (retry : Option Retry) (task : TaskId) (c : Command) (left : Option Record) (answer : Answer) (after : TablesOf) → Asks u moment caller retry task c left answer after → Meets (Asks (with_last u) moment caller retry task c left answer) after
  asks_with_last u moment caller retry task c left answer after asks =
      let found = asks_as u moment retry task c (Asked (record { 0 = moment }) caller retry task c) asks.sending left answer after asks.asks in
      (found.0, record { sending = asks.sending; sent = asks.sent; asks = found.1 }, found.2)

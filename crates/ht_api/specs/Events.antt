-- Which event a request is, or why it is none.
use Rattle.std.specs.Prelude.{ℕ, List, Option, Some, None, Result, Ok, Err}
use Rattle.ht_base.specs.declared.event.Event.{Event}
use Rattle.ht_base.specs.declared.event.Event.TheVariants.{Ask, Read}
use Rattle.ht_base.specs.declared.moment.Moment.{Moment}
use Rattle.ht_base.specs.declared.query.Query.{Query}
use Rattle.ht_base.specs.declared.query.Query.TheVariants as query
use Rattle.ht_base.specs.declared.task_id.TaskId.{TaskId}
use Rattle.ht_wire.specs.declared.request.Request.{Request}
use Rattle.ht_api.specs.declared.asked.Asked.TheVariants as asked
use Rattle.ht_api.specs.declared.refusal.ApiRefusal.{ApiRefusal}
use Rattle.ht_api.specs.declared.refusal.ApiRefusal.TheVariants.{Person}
use Rattle.ht_api.specs.declared.routes.Place.{Place}
use Rattle.ht_api.specs.declared.routes.Place.TheVariants as place
use Rattle.ht_api.specs.Commands.{Numbered, command_in}
use Rattle.ht_api.specs.Routes.{place_of, routed}

-- a command of a caller
abbrev pub asks : Moment → TaskId → Result Numbered ApiRefusal → Option (List ℕ) → Result Event ApiRefusal
asks at task (Err why) caller = Err why
asks at task (Ok sent) None = Err Person
asks at task (Ok (retry, command)) (Some name) = Ok (Ask at name retry task command)

-- a question of a caller
abbrev pub reads : Query → Option (List ℕ) → Result Event ApiRefusal
reads asked None = Err Person
reads asked (Some name) = Ok (Read name asked)

-- of a request at a place
abbrev pub event_at : Request → Moment → Result Place ApiRefusal → Result Event ApiRefusal
event_at r at (Err why) = Err why
event_at r at (Ok place.Tasks) = asks at (record { 0 = 0 }) (command_in asked.Create r.body.items) r.person
event_at r at (Ok (place.Operation task what)) = asks at task (command_in what r.body.items) r.person
event_at r at (Ok (place.Task task)) = reads (query.Sheet task) r.person
event_at r at (Ok (place.List role which from count)) = reads (query.Tasks role which from count) r.person
event_at r at (Ok (place.Notifications from count)) = reads (query.Notices from count) r.person

-- first its place and method count, then its body, then its caller
abbrev pub event_due : Request → ℕ → Result Event ApiRefusal
event_due r moment = event_at r (record { 0 = moment }) (routed r.method (place_of r.target.items))

-- Laws of the definitions, for the proofs of crates above: two requests that say the same are the same
-- event at a moment, and none is a turn.
use Rattle.std.proofs.Common.{◌≡◌, ◌∙◌, ℕ, List, Option, Some, None, ap, refl, Result, Ok, Err}
use Rattle.ht_base.specs.declared.event.Event.TheVariants.{Turn}
use Rattle.ht_base.specs.declared.moment.Moment.{Moment}
use Rattle.ht_base.specs.declared.query.Query.{Query}
use Rattle.ht_base.specs.declared.query.Query.TheVariants as query
use Rattle.ht_wire.specs.declared.request.Request.{Request}
use Rattle.ht_wire.specs.Requests.{IsSame}
use Rattle.ht_api.specs.declared.asked.Asked.TheVariants as asked
use Rattle.ht_api.specs.declared.refusal.ApiRefusal.{ApiRefusal}
use Rattle.ht_api.specs.declared.routes.Place.{Place}
use Rattle.ht_api.specs.declared.routes.Place.TheVariants as place
use Rattle.ht_base.specs.declared.task_id.TaskId.{TaskId}
use Rattle.ht_api.specs.Commands.{Numbered, command_in}
use Rattle.ht_api.specs.Events.{asks, event_at, event_due, reads}
use Rattle.ht_api.specs.Routes.{place_of, routed}

same_at : (q r : Request) (at : Moment) (p : Result Place ApiRefusal) → IsSame q r → event_at q at p ≡ event_at r at p
same_at q r at (Err why) same = refl
same_at q r at (Ok place.Tasks) same = λ i. asks at (record { 0 = 0 }) (command_in asked.Create (same.body i)) (same.person i)
same_at q r at (Ok (place.Operation task what)) same = λ i. asks at task (command_in what (same.body i)) (same.person i)
same_at q r at (Ok (place.Task task)) same = ap (reads (query.Sheet task)) same.person
same_at q r at (Ok (place.List role which from count)) same = ap (reads (query.Tasks role which from count)) same.person
same_at q r at (Ok (place.Notifications from count)) same = ap (reads (query.Notices from count)) same.person

pub same_event : (q r : Request) (moment : ℕ) → IsSame q r → event_due q moment ≡ event_due r moment
same_event q r moment same =
    (λ i. event_at q (record { 0 = moment }) (routed (same.method i) (place_of (same.target i)))) ∙ same_at q r (record { 0 = moment }) (routed r.method (place_of r.target.items)) same

asks_no_turn : (at : Moment) (task : TaskId) (r : Result Numbered ApiRefusal) (caller : Option (List ℕ)) (turn : Moment) → asks at task r caller ≡ Ok (Turn turn) → ⊥
asks_no_turn at task (Err why) caller turn e = cc
asks_no_turn at task (Ok sent) None turn e = cc
asks_no_turn at task (Ok (retry, command)) (Some name) turn e = cc

reads_no_turn : (asked : Query) (caller : Option (List ℕ)) (turn : Moment) → reads asked caller ≡ Ok (Turn turn) → ⊥
reads_no_turn asked None turn e = cc
reads_no_turn asked (Some name) turn e = cc

at_no_turn : (r : Request) (at : Moment) (p : Result Place ApiRefusal) (turn : Moment) → event_at r at p ≡ Ok (Turn turn) → ⊥
at_no_turn r at (Err why) turn e = cc
at_no_turn r at (Ok place.Tasks) turn e = asks_no_turn at (record { 0 = 0 }) (command_in asked.Create r.body.items) r.person turn e
at_no_turn r at (Ok (place.Operation task what)) turn e = asks_no_turn at task (command_in what r.body.items) r.person turn e
at_no_turn r at (Ok (place.Task task)) turn e = reads_no_turn (query.Sheet task) r.person turn e
at_no_turn r at (Ok (place.List role which from count)) turn e = reads_no_turn (query.Tasks role which from count) r.person turn e
at_no_turn r at (Ok (place.Notifications from count)) turn e = reads_no_turn (query.Notices from count) r.person turn e

pub no_turn : (r : Request) (moment : ℕ) (turn : Moment) → event_due r moment ≡ Ok (Turn turn) → ⊥
no_turn r moment turn e = at_no_turn r (record { 0 = moment }) (routed r.method (place_of r.target.items)) turn e

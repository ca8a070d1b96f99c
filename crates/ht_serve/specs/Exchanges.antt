-- What came of each request of a connection.
use Rattle.std.specs.Prelude.{◌≡◌, ◌⊎◌, ℕ, ◌+◌, ◌≤◌, Bool, List, [], ◌∷◌, map, Option, Result, Ok, Err}
use Rattle.std.specs.List.{flat_map}
use Rattle.ht_base.specs.declared.event.Event.{Event}
use Rattle.ht_base.specs.declared.reply.Answer.TheVariants.{Refused}
use Rattle.ht_base.specs.declared.reply.Refusal.TheVariants as refusal
use Rattle.ht_base.specs.Moment.{last_moment}
use Rattle.ht_outside.specs.Clocks.{IsNext, later}
use Rattle.ht_wire.specs.declared.request.Request.{Request}
use Rattle.ht_wire.specs.Replies.{reply_bytes}
use Rattle.ht_api.specs.declared.refusal.ApiRefusal.{ApiRefusal}
use Rattle.ht_api.specs.Events.{event_due}
use Rattle.ht_api.specs.Refusals.{Gives, refusal_of}
use Rattle.ht_api.specs.Replies.{IsTold, answer_text}
use Rattle.ht_api.specs.Statuses.{refusal_status}
use Rattle.ht_serve.specs.Calls.{Call}
use Rattle.ht_serve.specs.Closing.{closes_at}
use Rattle.ht_serve.specs.Texts.{memory_text, reply_status}

-- What came of a request: it is refused, since it makes no event, or there is no memory for one; its
-- event was called; so it was, and the answer is a sheet for whose text there is no memory; or no turn
-- was left for its event.
pub data Outcome : Type 0 where
  refused : ApiRefusal → Outcome
  answered : Call → Outcome
  not_shown : Call → Outcome
  turned_away : Event → Outcome

-- closes: whether the reply closes the connection
pub record Exchange : Type 0 where
  pub request : Request
  pub moment : ℕ
  pub closes : Bool
  pub outcome : Outcome

-- what may come of a request for which this event is due, or this refusal
abbrev pub IsOutcome : Result Event ApiRefusal → Outcome → Type 0
IsOutcome due (refused why) = Gives due (Err why)
IsOutcome due (answered c) = Ok c.event ≡ due
IsOutcome due (not_shown c) = (Ok c.event ≡ due) × IsTold c.reply.answer
IsOutcome due (turned_away e) = Ok e ≡ due

-- the status and the text of the reply
abbrev pub status_of : Outcome → ℕ
status_of (refused why) = refusal_status (refusal_of why)
status_of (answered c) = reply_status c.event c.reply.answer
status_of (not_shown c) = 500
status_of (turned_away e) = refusal_status refusal.Spent

abbrev pub text_of : Outcome → List ℕ
text_of (refused why) = answer_text (Refused (refusal_of why))
text_of (answered c) = answer_text c.reply.answer
text_of (not_shown c) = memory_text
text_of (turned_away e) = answer_text (Refused refusal.Spent)

-- the bytes of the reply
abbrev pub spelled : Exchange → List ℕ
spelled x = reply_bytes (status_of x.outcome) (text_of x.outcome) x.closes

-- the calls that were made, in order
abbrev pub calls_of : Outcome → List Call
calls_of (refused why) = []
calls_of (answered c) = c ∷ []
calls_of (not_shown c) = c ∷ []
calls_of (turned_away e) = []

abbrev pub calls : List Exchange → List Call
calls xs = flat_map (λ x. calls_of x.outcome) xs

abbrev pub requests : List Exchange → List Request
requests xs = map (λ x. x.request) xs

abbrev pub closings : List Exchange → List Bool
closings xs = map (λ x. x.closes) xs

abbrev pub replies : List Exchange → List ℕ
replies xs = flat_map spelled xs

-- for one of these no turn was left
abbrev pub IsAway : Outcome → Type 0
IsAway (refused why) = ⊥
IsAway (answered c) = ⊥
IsAway (not_shown c) = ⊥
IsAway (turned_away e) = Unit {0}

abbrev pub HasAway : List Exchange → Type 0
HasAway [] = ⊥
HasAway (x ∷ xs) = IsAway x.outcome ⊎ HasAway xs

-- each exchange, from number k on, has the next moment of the clock, closes the connection where it
-- must, and has an outcome that it may have
abbrev pub AreExchanges : Bool → ℕ → Option (ℕ → ℕ) → ℕ → List Exchange → Type 0
AreExchanges closing most clock k [] = Unit {0}
AreExchanges closing most clock k (x ∷ xs) =
    IsNext clock x.moment
    × (x.moment ≤ last_moment)
    × (x.closes ≡ closes_at closing most k x.request.last)
    × IsOutcome (event_due x.request x.moment) x.outcome
    × AreExchanges closing most (later clock) (k + 1) xs

-- the clock behind these exchanges
abbrev pub after : List Exchange → Option (ℕ → ℕ) → Option (ℕ → ℕ)
after [] clock = clock
after (x ∷ xs) clock = after xs (later clock)

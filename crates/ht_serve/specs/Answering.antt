-- What one request does and is answered. Made are the calls that were made for it, and Spent is that
-- no turn is left for who made them.
use Rattle.std.specs.Prelude.{◌≡◌, ℕ, Bool, List, Option, Result}
use Rattle.ht_base.specs.declared.event.Event.{Event}
use Rattle.ht_outside.specs.Tells.{WriteGrows}
use Rattle.ht_wire.specs.Replies.{reply_bytes}
use Rattle.ht_api.specs.declared.refusal.ApiRefusal.{ApiRefusal}
use Rattle.ht_serve.specs.Calls.{Call}
use Rattle.ht_serve.specs.Exchanges.{Outcome, IsAway, IsOutcome, calls_of, status_of, text_of}

-- this status and text tell what came of a request, for which this event is due, or this refusal
pub record Answers (Made : List Call → Type 0) (Spent : Type 0) (due : Result Event ApiRefusal) (status : ℕ) (text : List ℕ) : Type 0 where
  pub outcome : Outcome
  pub may : IsOutcome due outcome
  pub made : Made (calls_of outcome)
  pub away : IsAway outcome → Spent
  pub status_is : status ≡ status_of outcome
  pub text_is : text ≡ text_of outcome

-- the answer was written, or a prefix of it where that failed
pub record Replies {E : Type 0} (Made : List Call → Type 0) (Spent : Type 0) (due : Result Event ApiRefusal) (closes : Bool) (old new : Option (List ℕ)) (result : Result (Unit {0}) E) : Type 0 where
  pub status : ℕ
  pub text : List ℕ
  pub answers : Answers Made Spent due status text
  pub wrote : WriteGrows old new result (reply_bytes status text closes)

-- A request makes no turn.
use Rattle.std.proofs.Common.{◌≡◌, ℕ, ◌+◌, Bool, List, [], ◌∷◌, ◌++◌, sym, Option, Ok}
use Rattle.ht_base.specs.declared.event.Event.{Event}
use Rattle.ht_base.specs.declared.event.Event.TheVariants.{Turn, Ask, Read}
use Rattle.ht_wire.specs.declared.request.Request.{Request}
use Rattle.ht_api.specs.Events.{event_due}
use Rattle.ht_api.proofs.PublicLaws.{no_turn}
use Rattle.ht_outside.specs.Clocks.{later}
use Rattle.ht_serve.specs.Calls.{Call}
use Rattle.ht_serve.specs.Exchanges.{AreExchanges, Exchange, IsOutcome, Outcome, refused, answered, not_shown, turned_away, calls, calls_of}
use Rattle.ht_workers.specs.Working.{AreAsked, IsAsked}

pub asked_on : (xs ys : List Call) → AreAsked xs → AreAsked ys → AreAsked (xs ++ ys)
asked_on [] ys a b = b
asked_on (x ∷ xs) ys a b = (a.0, asked_on xs ys a.1 b)

due_asked : (r : Request) (m : ℕ) (e : Event) → Ok e ≡ event_due r m → IsAsked e
due_asked r m (Turn at) is = absurd (no_turn r m at (sym is))
due_asked r m (Ask at caller retry task command) is = tt
due_asked r m (Read caller query) is = tt

outcome_asked : (r : Request) (m : ℕ) (o : Outcome) → IsOutcome (event_due r m) o → AreAsked (calls_of o)
outcome_asked r m (refused why) is = tt
outcome_asked r m (answered c) is = (due_asked r m c.event is, tt)
outcome_asked r m (not_shown c) is = (due_asked r m c.event is.0, tt)
outcome_asked r m (turned_away e) is = tt

pub exchanges_asked : (closing : Bool) (most : ℕ) (clock : Option (ℕ → ℕ)) (k : ℕ) (xs : List Exchange) → AreExchanges closing most clock k xs → AreAsked (calls xs)
exchanges_asked closing most clock k [] a = tt
exchanges_asked closing most clock k (x ∷ xs) a =
    asked_on (calls_of x.outcome) (calls xs) (outcome_asked x.request x.moment x.outcome a.3) (exchanges_asked closing most (later clock) (k + 1) xs a.4)

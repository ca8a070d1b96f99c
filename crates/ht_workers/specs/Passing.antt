-- The calls of a pass.
use Rattle.std.specs.Prelude.{◌≡◌, ◌⊎◌, ℕ, ◌-◌, ◌^◌, ◌≤◌, List, [], ◌++◌, Some, Contains}
use Rattle.ht_base.specs.History.{Entry, IsLegal, own}
use Rattle.ht_base.specs.declared.event.Event.{Event}
use Rattle.ht_base.specs.declared.reply.Reply.{Reply}
use Rattle.ht_serve.specs.Calls.{Call, calls_in}
use Rattle.ht_shared.specs.Passes.{IsSamePass, PassOf}

module _ {S : Type 0} where
  -- the pass found that no ticket is left: 2^63 were drawn, and all calls were entered but those that
  -- still waited
  abbrev pub IsOutOfTickets : PassOf S Event Reply → Type 0
  IsOutOfTickets pass = (2 ^ 63 ≤ pass.drawn) × (2 ^ 63 - 2 ^ 32 ≤ pass.found)

  -- what the pass has seen is a legal history, from the machine at the beginning of its turn lock
  abbrev pub IsLegalPass : (S → Event → Reply → S → Type 0) → PassOf S Event Reply → Type 0
  IsLegalPass Step pass = (start : S) → pass.start ≡ Some start → IsLegal Step start pass.seen

  -- the pass made these calls, in order, each once, and no others
  pub record PassMade (Step : S → Event → Reply → S → Type 0) (old new : PassOf S Event Reply) (calls : List Call) : Type 0 where
    pub same : IsSamePass old new
    -- what it has seen goes on from what it had seen, and is legal where anything came to it
    pub more : List (Entry S Event Reply)
    pub seen : new.seen ≡ old.seen ++ more
    pub legal : (more ≡ []) ⊎ IsLegalPass Step new
    -- its own entries are those that it had, and behind them these calls
    pub added : List (Entry S Event Reply)
    pub mine : own old.number new.seen ≡ own old.number old.seen ++ added
    pub calls_are : calls_in added ≡ calls
    -- the passes that were joined into it have no new entries
    pub theirs : (n : ℕ) → Contains old.ended n → own n new.seen ≡ own n old.seen
    -- it found nothing new of the tickets, or that none is left
    pub tickets : ((new.drawn ≡ old.drawn) × (new.found ≡ old.found)) ⊎ IsOutOfTickets new

-- A timer makes turns only, and one at least where a ticket was left for it.
use Rattle.std.proofs.Common.{◌≡◌, ◌⊎◌, inl, inr, ℕ, zero, suc, ◌+◌, ◌^◌, ◌<◌, ◌≤◌, Bool, arith, List, [], ◌∷◌, length, Option, sym, subst}
use Rattle.ht_base.specs.declared.event.Event.{Event}
use Rattle.ht_base.specs.declared.event.Event.TheVariants.{Turn}
use Rattle.ht_base.specs.declared.reply.Reply.{Reply}
use Rattle.ht_outside.specs.Clocks.{later}
use Rattle.ht_serve.specs.Calls.{Call}
use Rattle.ht_shared.specs.Passes.{IsSamePass, PassOf}
use Rattle.ht_workers.specs.Passing.{IsOutOfTickets, PassMade}
use Rattle.ht_workers.specs.Timing.{AreTurns, EndsTimer, TimerState}
use Rattle.ht_pool.specs.Crews.{IsTurn}
use Rattle.ht_pool.specs.Gathering.{AreTurnsOnly, HasTurned}

turns_only : (clock : Option (ℕ → ℕ)) (cs : List Call) → AreTurns clock cs → AreTurnsOnly cs
turns_only clock [] are = tt
turns_only clock (c ∷ cs) are = (subst IsTurn (sym are.0.1) tt, turns_only (later clock) cs are.1)

pub has_turned : {S : Type 0} (Step : S → Event → Reply → S → Type 0) (p q : PassOf S Event Reply) (old new : TimerState) (last : Bool) → EndsTimer (PassMade Step p q) (IsOutOfTickets q) old new last → old.turns ≡ 0 → IsSamePass p q → HasTurned Step p q
has_turned Step p q old new last (inl told) none same = record {
  calls = told.timed.calls;
  made = told.timed.made;
  turns = turns_only old.clock told.timed.calls told.timed.are;
  some_turn = inl (counted old.turns new.turns (length told.timed.calls) none told.timed.counted told.some_turn);
  pass = same;
}
  where
    counted : (o n l : ℕ) → o ≡ 0 → (o + l < 2 ^ 64 → n ≡ o + l) → 1 ≤ n → 1 ≤ l
    counted o n zero none rises some = let e : n ≡ o + 0 = rises (omega (arith, none)) in omega (arith, e, none, some)
    counted o n (suc l) none rises some = omega arith
has_turned Step p q old new last (inr stopped) none same = record {
  calls = stopped.timed.calls;
  made = stopped.timed.made;
  turns = turns_only old.clock stopped.timed.calls stopped.timed.are;
  some_turn = inr stopped.spent;
  pass = same;
}

-- What a timer does: turns, one after another, until it is told to end.
use Rattle.std.specs.Prelude.{◌≡◌, ◌⊎◌, ℕ, ◌≤◌, Bool, true, List, [], ◌∷◌, length, Option}
use Rattle.ht_base.specs.declared.event.Event.TheVariants.{Turn}
use Rattle.ht_base.specs.Moment.{last_moment}
use Rattle.ht_outside.specs.Clocks.{IsNext, later}
use Rattle.ht_outside.specs.declared.clock.Clock as clock
use Rattle.ht_serve.specs.Calls.{Call}
use Rattle.ht_workers.specs.Counts.{Rises}
use Rattle.ht_workers.specs.declared.finish.Finish as finish

-- each call is a turn at the next moment of the clock
abbrev pub AreTurns : Option (ℕ → ℕ) → List Call → Type 0
AreTurns clock [] = Unit {0}
AreTurns clock (c ∷ cs) =
    ((at : ℕ) × (c.event ≡ Turn (record { 0 = at })) × IsNext clock at × (at ≤ last_moment)) × AreTurns (later clock) cs

-- the clock behind these turns
abbrev pub after : List Call → Option (ℕ → ℕ) → Option (ℕ → ℕ)
after [] clock = clock
after (c ∷ cs) clock = after cs (later clock)

-- what the clock of a timer tells, how often it was asked whether the timer is to end, and how many
-- turns it counted
pub record TimerState : Type 0 where
  pub clock : Option (ℕ → ℕ)
  pub asked : ℕ
  pub turns : ℕ

abbrev pub timer_of : {C F : Type 0} → clock.Ghosts C → finish.Ghosts F → C → F → ℕ → TimerState
timer_of ticks questions time finish turns = record { clock = ticks.moments time; asked = questions.asked finish; turns = turns }

-- turns were made, and no other calls; each was counted once, and behind each was one question
pub record Timed (Made : List Call → Type 0) (old new : TimerState) : Type 0 where
  pub calls : List Call
  pub made : Made calls
  pub are : AreTurns old.clock calls
  pub clock : new.clock ≡ after calls old.clock
  pub counted : Rises old.turns new.turns (length calls)
  pub asked : Rises old.asked new.asked (length calls)

-- the last answer, behind the last turn, was that the timer is to end
pub record IsTold (Made : List Call → Type 0) (old new : TimerState) (last : Bool) : Type 0 where
  pub timed : Timed Made old new
  pub told : last ≡ true
  pub some_turn : 1 ≤ new.turns

-- no ticket was left for one turn more, whose moment the clock had given
pub record IsStopped (Made : List Call → Type 0) (Spent : Type 0) (old new : TimerState) : Type 0 where
  pub before : TimerState
  pub timed : Timed Made old before
  pub new_is : new ≡ record before { clock = later before.clock }
  pub spent : Spent

-- how a timer ends
abbrev pub EndsTimer : (List Call → Type 0) → Type 0 → TimerState → TimerState → Bool → Type 0
EndsTimer Made Spent old new last = IsTold Made old new last ⊎ IsStopped Made Spent old new

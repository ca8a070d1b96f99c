-- Worked examples of the definitions. A wrong reading of one fails the check.
use Rattle.std.specs.Prelude.{◌≡◌, true, List, [], ◌∷◌, ◌++◌, length, Option, Some, None, codes, refl}
use Rattle.std.proofs.Common.{ap, inl, inr, arith, ◌∙◌, ℕ}
use Rattle.ht_base.specs.History.{Entry}
use Rattle.ht_base.specs.declared.event.Event.{Event}
use Rattle.ht_base.specs.declared.event.Event.TheVariants.{Turn, Ask, Read}
use Rattle.ht_base.specs.declared.event.Command.TheVariants as command
use Rattle.ht_base.specs.declared.query.Query.TheVariants as query
use Rattle.ht_base.specs.declared.reply.Answer.TheVariants.{Done}
use Rattle.ht_base.specs.declared.reply.Reply.{Reply}
use Rattle.ht_base.specs.declared.state.State.TheVariants.{Reserved}
use Rattle.ht_doors.specs.Doors.{DoorState, LinkState}
use Rattle.ht_outside.specs.Clocks.{IsNext, later, moment_of}
use Rattle.ht_serve.specs.Calls.{Call, calls_in}
use Rattle.ht_shared.specs.Passes.{PassOf}
use Rattle.ht_workers.specs.declared.working.WorkEnd.TheVariants as ended
use Rattle.ht_workers.specs.Passing.{PassMade}
use Rattle.ht_workers.specs.Timing.{AreTurns, IsStopped, IsTold, TimerState, after}
use Rattle.ht_workers.specs.Working.{AreAsked, EndsWork}

-- ---- calls

abbrev reply : Reply
reply = record { taken = 0; answer = Done (record { 0 = 1 }) Reserved (Some (codes "anna")) }

abbrev turn : ℕ → Call
turn at = record { event = Turn (record { 0 = at }); reply = reply }

abbrev claim : Call
claim = record { event = Ask (record { 0 = 1000 }) (codes "anna") None (record { 0 = 1 }) command.Claim; reply = reply }

abbrev reading : Call
reading = record { event = Read (codes "anna") (query.Sheet (record { 0 = 1 })); reply = reply }

-- ---- a pass, at a machine whose states are numbers and whose steps are free

abbrev entry : ℕ → Call → Entry ℕ Event Reply
entry pass call = record { pass = pass; event = call.event; reply = call.reply; after = 7 }

abbrev AnyStep : ℕ → Event → Reply → ℕ → Type 0
AnyStep old event reply new = Unit {0}

module _ (first : PassOf ℕ Event Reply) where
  -- the pass of number 2 at the turn lock of the first one, which has seen these entries
  abbrev pass_of : List (Entry ℕ Event Reply) → PassOf ℕ Event Reply
  pass_of seen = record { table = first.table; start = Some 3; number = 2; seen = seen; ended = []; drawn = 0; found = 0; given = 0 }

  -- what others called in between is seen, and isn't among its own calls
  a_pass_makes_one_call : PassMade AnyStep (pass_of []) (pass_of (entry 0 (turn 5) ∷ entry 2 claim ∷ [])) (claim ∷ [])
  a_pass_makes_one_call = record {
    same = record { table = refl; start = refl; number = refl; ended = refl; given = refl };
    more = entry 0 (turn 5) ∷ entry 2 claim ∷ [];
    seen = refl;
    legal = inr (λ start is. (tt, (tt, tt)));
    added = entry 2 claim ∷ [];
    mine = refl;
    calls_are = refl;
    theirs = λ n c. absurd (omega (arith, c.1));
    tickets = inl (refl, refl);
  }

  -- none of its own calls can be left out
  no_call_is_left_out : PassMade AnyStep (pass_of []) (pass_of (entry 2 claim ∷ [])) [] → ⊥
  no_call_is_left_out made = some_and_none (made.mine ∙ none made.added made.calls_are)
    where
      none : (added : List (Entry ℕ Event Reply)) → calls_in added ≡ [] → added ≡ []
      none [] is = refl
      none (e ∷ es) is = absurd (cc)

      some_and_none : entry 2 claim ∷ [] ≡ [] → ⊥
      some_and_none is = cc

-- ---- a timer, whose clock gives 5, 15, 25 and so on

abbrev ticks : Option (ℕ → ℕ)
ticks = Some (moment_of 5 10)

two_turns : AreTurns ticks (turn 5 ∷ turn 15 ∷ [])
two_turns = ((5, refl, refl, omega arith), ((15, refl, refl, omega arith), tt))

the_third_follows : IsNext (after (turn 5 ∷ turn 15 ∷ []) ticks) 25
the_third_follows = refl

no_moment_is_left_out : AreTurns ticks (turn 15 ∷ []) → ⊥
no_moment_is_left_out a = let first = a.0 in different first.0 first.1 first.2
  where
    moment : Event → ℕ
    moment (Turn at) = at.0
    moment (Ask at caller retry task command) = at.0
    moment (Read caller query) = 0

    different : (at : ℕ) → Turn (record { 0 = 15 }) ≡ Turn (record { 0 = at }) → at ≡ 5 → ⊥
    different at is next = let fifteen : 15 ≡ at = ap moment is in omega (arith, fifteen, next)

only_turns : AreTurns ticks (claim ∷ []) → ⊥
only_turns a = let is = a.0.1 in cc

abbrev started : TimerState
started = record { clock = ticks; asked = 0; turns = 0 }

told_behind_the_first_turn : IsTold (λ cs. cs ≡ turn 5 ∷ []) started (record { clock = later ticks; asked = 1; turns = 1 }) true
told_behind_the_first_turn = record {
  timed = record { calls = turn 5 ∷ []; made = refl; are = ((5, refl, refl, omega arith), tt); clock = refl; counted = λ _. refl; asked = λ _. refl };
  told = refl;
  some_turn = omega arith;
}

-- none was left for the first: no turn was made, nobody was asked, and the clock has given its moment
stopped_at_the_first_turn : IsStopped (λ cs. cs ≡ []) (Unit {0}) started (record { clock = later ticks; asked = 0; turns = 0 })
stopped_at_the_first_turn = record {
  before = started;
  timed = record { calls = []; made = refl; are = tt; clock = refl; counted = λ _. refl; asked = λ _. refl };
  new_is = refl;
  spent = tt;
}

-- ---- a worker

commands_and_questions : AreAsked (claim ∷ reading ∷ [])
commands_and_questions = (tt, (tt, tt))

no_turns : AreAsked (claim ∷ turn 5 ∷ []) → ⊥
no_turns a = a.1.0

-- a door at which so many links were taken, so many calls failed, and none was handed back
abbrev door : ℕ → ℕ → DoorState
door links faults = record { links = links; faults = faults; back = Some [] }

-- with no share but without end, a worker is never done
never_done : EndsWork (λ cs. cs ≡ []) ⊥ None (door 0 0) (door 0 0) ended.Done → ⊥
never_done a = a

nothing_to_do : EndsWork (λ cs. cs ≡ []) ⊥ (Some 0) (door 4 0) (door 4 0) ended.Done
nothing_to_do = record { calls = []; made = refl; asked = tt; links = λ _. refl; faults = omega arith; back = ([], refl, refl, refl) }

-- a link that wasn't handed back isn't part of a share that was served
a_link_is_kept_back : EndsWork (λ cs. cs ≡ []) ⊥ (Some 1) (door 0 0) (door 1 0) ended.Done → ⊥
a_link_is_kept_back a = kept a.back.0 a.back.1 a.back.2
  where
    kept : (links : List LinkState) → [] ≡ [] ++ links → length links ≡ 1 → ⊥
    kept [] is one = omega (arith, one)
    kept (l ∷ ls) is one = cc

-- no link could be taken
the_door_failed : EndsWork (λ cs. cs ≡ []) ⊥ (Some 2) (door 4 0) (door 4 1) ended.Door
the_door_failed = ((0, omega arith, record { calls = []; last = []; made = refl; asked = tt; links = inl ((λ _. refl), refl); faults = omega arith; back = ([], refl, refl, refl) }), omega arith)

-- the door is blamed only where one of its calls failed
no_call_failed : EndsWork (λ cs. cs ≡ []) ⊥ (Some 2) (door 4 0) (door 4 0) ended.Door → ⊥
no_call_failed a = omega (arith, a.1)

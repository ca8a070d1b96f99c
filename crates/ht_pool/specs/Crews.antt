-- What workers and a timer do to one machine, each by a pass of its own.
use Rattle.std.specs.Prelude.{◌≡◌, ◌⊎◌, ℕ, ◌+◌, ◌-◌, ◌^◌, ◌<◌, ◌≤◌, ◌==◌, cond, List, [], ◌∷◌, ◌++◌, All, length, map, Option, Some, None, ⊤}
use Rattle.ht_base.specs.History.{Entry, IsLegal, end_of}
use Rattle.ht_base.specs.Readings.{call_of}
use Rattle.ht_base.specs.declared.event.Event.{Event}
use Rattle.ht_base.specs.declared.event.Event.TheVariants.{Turn, Ask, Read}
use Rattle.ht_base.specs.declared.reply.Reply.{Reply}
use Rattle.ht_doors.specs.Doors.{DoorState, LinkState}
use Rattle.ht_outside.specs.Causes.{Rose}
use Rattle.ht_pool.specs.declared.crew.Crew.{Crew}
use Rattle.ht_pool.specs.Shares.{shares_to}
use Rattle.ht_serve.specs.Calls.{Call}
use Rattle.ht_workers.specs.declared.working.WorkEnd.{WorkEnd}
use Rattle.ht_workers.specs.declared.working.WorkEnd.TheVariants as ended
use Rattle.ht_workers.specs.Counts.{Rises}
use Rattle.ht_workers.specs.Working.{AreServed, IsAsked}

-- ---- the calls of a history, each with the number of its pass

abbrev pub Said : Type 0
Said = ℕ × Event × Reply

-- those of one pass
abbrev pub calls_by : ℕ → List Said → List Call
calls_by n [] = []
calls_by n (c ∷ cs) = cond (c.0 == n) (record { event = c.1; reply = c.2 } ∷ calls_by n cs) (calls_by n cs)

abbrev pub IsTurn : Event → Type 0
IsTurn (Turn at) = Unit {0}
IsTurn (Ask at caller retry task command) = ⊥
IsTurn (Read caller query) = ⊥

-- a worker, whose passes are numbered from 1 on, commands or asks; the timer, whose pass is the next, makes turns
abbrev pub IsOfCrew : ℕ → Said → Type 0
IsOfCrew workers c = ((1 ≤ c.0) × (c.0 ≤ workers) × IsAsked c.1) ⊎ ((c.0 ≡ workers + 1) × IsTurn c.1)

-- so many calls were made that passes may have found no ticket left
abbrev pub IsLong : List Said → Type 0
IsLong said = 2 ^ 63 - 2 ^ 32 ≤ length said

-- ---- all connections are served

-- The links of each worker are its share, and the calls of its pass, which are numbered from n on, are those of its links,
-- in their order.
abbrev pub AreShares : List Said → ℕ → List ℕ → List (List LinkState) → Type 0
AreShares said n [] [] = ⊤
AreShares said n [] (links ∷ others) = ⊥
AreShares said n (share ∷ shares) [] = ⊥
AreShares said n (share ∷ shares) (links ∷ others) = (length links ≡ share) × AreServed (IsLong said) links (calls_by n said) × AreShares said (n + 1) shares others

-- one worker's links behind the other's
abbrev pub in_turn : List (List LinkState) → List LinkState
in_turn [] = []
in_turn (links ∷ others) = links ++ in_turn others

-- what a door tells of the links that the workers handed back, where all together are fewer than 2^63
abbrev pub HandsAllBack : List Said → List ℕ → ℕ → Option (List LinkState) → Option (List LinkState) → Type 0
HandsAllBack said shares connections None new = new ≡ None
HandsAllBack said shares connections (Some old) new =
    length old + connections < 2 ^ 63 → (parts : List (List LinkState)) × (new ≡ Some (old ++ in_turn parts)) × AreShares said 1 shares parts

-- All connections were taken, served and handed back, and the timer made a turn, or found no ticket left for it.
pub record ServesAll (crew : Crew) (said : List Said) (old new : DoorState) : Type 0 where
  pub connections : ℕ
  pub asked_for : crew.connections ≡ Some connections
  pub links : Rises old.links new.links connections
  pub back : HandsAllBack said (shares_to crew.workers connections crew.workers) connections old.back new.back
  pub turned : (1 ≤ length (calls_by (crew.workers + 1) said)) ⊎ IsLong said

-- how a crew ends: a call of a door is told only where one failed; memory has no cause that is seen
abbrev pub EndsCrew : Crew → List Said → DoorState → DoorState → WorkEnd → Type 0
EndsCrew crew said old new ended.Done = ServesAll crew said old new
EndsCrew crew said old new ended.Door = Rose old.faults new.faults
EndsCrew crew said old new ended.Memory = ⊤

-- what the calls of a crew are, and how it ended
pub record IsCrewOf (crew : Crew) (said : List Said) (old new : DoorState) (ending : WorkEnd) : Type 0 where
  pub made : All (IsOfCrew crew.workers) said
  pub ends : EndsCrew crew said old new ending

-- The machine went from one state to the other by one legal history, which has each call of the crew once.
pub record RunsCrew {S : Type 0} (Step : S → Event → Reply → S → Type 0) (crew : Crew) (before after : S) (old new : DoorState) (ending : WorkEnd) : Type 0 where
  pub history : List (Entry S Event Reply)
  pub legal : IsLegal Step before history
  pub after_is : end_of before history ≡ after
  pub crew_is : IsCrewOf crew (map call_of history) old new ending

-- A worker before and behind its work, and how passes and doors come together behind it.
use Rattle.std.specs.Prelude.{◌≡◌, ◌⊎◌, ℕ, zero, suc, ◌+◌, ◌≤◌, List, [], ◌∷◌, ◌++◌, length, map, Option, option_map, ⊤}
use Rattle.std.specs.List.{AllByRecursion}
use Rattle.ht_base.specs.declared.event.Event.{Event}
use Rattle.ht_base.specs.declared.reply.Reply.{Reply}
use Rattle.ht_doors.specs.Doors.{AreJoined, DoorState, count_on}
use Rattle.ht_serve.specs.Calls.{Call}
use Rattle.ht_outside.specs.Causes.{Rose}
use Rattle.ht_shared.specs.Passes.{IsOf, IsSamePass, Joined, PassOf, SharedOf, given_by}
use Rattle.ht_workers.specs.declared.working.WorkEnd.{WorkEnd}
use Rattle.ht_workers.specs.declared.working.WorkEnd.TheVariants as ended
use Rattle.ht_workers.specs.Passing.{IsOutOfTickets, PassMade}
use Rattle.ht_workers.specs.Working.{EndsWork}
use Rattle.ht_pool.specs.Crews.{IsTurn}
use Rattle.ht_pool.specs.Shares.{share_of}

-- two lists side by side, one by one and as many
abbrev pub AreEach : {W D : Type 0} → (W → D → Type 0) → List W → List D → Type 0
AreEach Rel [] [] = Unit {0}
AreEach Rel [] (d ∷ ds) = ⊥
AreEach Rel (w ∷ ws) [] = ⊥
AreEach Rel (w ∷ ws) (d ∷ ds) = Rel w d × AreEach Rel ws ds

-- a door's fork as it begins
abbrev pub fork_of : DoorState → DoorState
fork_of door = record { links = 0; faults = 0; back = option_map (λ _. []) door.back }

-- what is told of a worker's pass and door, its share, and how it ended
pub record WorkerOf (S : Type 0) : Type 0 where
  pub pass : PassOf S Event Reply
  pub door : DoorState
  pub share : Option ℕ
  pub ending : WorkEnd

-- what is told of a seat that waits for its pass
pub record SeatOf : Type 0 where
  pub door : DoorState
  pub share : Option ℕ

abbrev pub seat_of : DoorState → Option ℕ → SeatOf
seat_of door share = record { door = door; share = share }

-- the seats of the first so many workers of a crew
abbrev pub seats_to : ℕ → Option ℕ → DoorState → ℕ → List SeatOf
seats_to workers connections door zero = []
seats_to workers connections door (suc k) = seats_to workers connections door k ++ seat_of (fork_of door) (option_map (λ n. share_of workers n k) connections) ∷ []

-- why a crew doesn't begin: a call of the door failed, or there was no memory
abbrev pub IsCause : ℕ → ℕ → WorkEnd → Type 0
IsCause faults after ended.Done = ⊥
IsCause faults after ended.Door = Rose faults after
IsCause faults after ended.Memory = ⊤

abbrev pub AreTurnsOnly : List Call → Type 0
AreTurnsOnly [] = ⊤
AreTurnsOnly (c ∷ cs) = IsTurn c.event × AreTurnsOnly cs

module _ {S : Type 0} where
  abbrev pub worker_of : PassOf S Event Reply → DoorState → Option ℕ → WorkEnd → WorkerOf S
  worker_of pass door share ending = record { pass = pass; door = door; share = share; ending = ending }

  abbrev pub passes_of : List (WorkerOf S) → List (PassOf S Event Reply)
  passes_of ws = map (λ w. w.pass) ws

  abbrev pub doors_of : List (WorkerOf S) → List DoorState
  doors_of ws = map (λ w. w.door) ws

  abbrev pub endings_of : List (WorkerOf S) → List WorkEnd
  endings_of ws = map (λ w. w.ending) ws

  -- they are all of one turn lock
  abbrev pub AreOf : SharedOf S → List (WorkerOf S) → Type 0
  AreOf shared ws = AllByRecursion (λ w. IsOf shared w.pass) ws

  -- the first pass behind so many that it gave
  abbrev pub gave : PassOf S Event Reply → ℕ → PassOf S Event Reply
  gave first n = record first { given = first.given + n }

  -- workers of these seats, whose passes the first one gives, one behind the other
  abbrev pub staff_of : PassOf S Event Reply → List SeatOf → List (WorkerOf S)
  staff_of first [] = []
  staff_of first (seat ∷ seats) = worker_of (given_by first) seat.door seat.share ended.Done ∷ staff_of (gave first 1) seats

  -- a worker that has worked
  pub record HasWorked (Step : S → Event → Reply → S → Type 0) (old new : WorkerOf S) : Type 0 where
    pub ends : EndsWork (PassMade Step old.pass new.pass) (IsOutOfTickets new.pass) old.share old.door new.door new.ending
    pub pass : IsSamePass old.pass new.pass

  -- a timer made turns, at least one where a ticket was left for it
  pub record HasTurned (Step : S → Event → Reply → S → Type 0) (old new : PassOf S Event Reply) : Type 0 where
    pub calls : List Call
    pub made : PassMade Step old new calls
    pub turns : AreTurnsOnly calls
    pub some_turn : (1 ≤ length calls) ⊎ IsOutOfTickets new
    pub pass : IsSamePass old new

  -- these passes were joined into the old one, in their order
  abbrev pub JoinsPasses : PassOf S Event Reply → List (PassOf S Event Reply) → PassOf S Event Reply → Type 0
  JoinsPasses old [] new = new ≡ old
  JoinsPasses old (p ∷ ps) new = (mid : PassOf S Event Reply) × Joined old p mid × JoinsPasses mid ps new

-- a fork was joined into the door
pub record JoinsFork (old fork new : DoorState) : Type 0 where
  pub links : new.links ≡ count_on old.links fork.links
  pub faults : new.faults ≡ count_on old.faults fork.faults
  pub back : AreJoined old.back fork.back new.back

-- these forks were joined into the door, in their order
abbrev pub JoinsForks : DoorState → List DoorState → DoorState → Type 0
JoinsForks old [] new = new ≡ old
JoinsForks old (f ∷ fs) new = (mid : DoorState) × JoinsFork old f mid × JoinsForks mid fs new

-- the worse of two endings: a door's fault goes before want of memory
abbrev pub worse : WorkEnd → WorkEnd → WorkEnd
worse ended.Door b = ended.Door
worse ended.Memory ended.Door = ended.Door
worse ended.Memory ended.Memory = ended.Memory
worse ended.Memory ended.Done = ended.Memory
worse ended.Done b = b

-- the worst of these and one more
abbrev pub worst : WorkEnd → List WorkEnd → WorkEnd
worst e [] = e
worst e (f ∷ fs) = worst (worse e f) fs

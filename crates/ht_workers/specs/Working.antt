-- What a worker does: the links that it serves and hands back, and the calls that it makes for them.
use Rattle.std.specs.Prelude.{◌≡◌, ◌≢◌, ◌⊎◌, ℕ, ◌+◌, ◌<◌, ◌≤◌, true, List, [], ◌∷◌, ◌++◌, length, Option, Some, None, IfSome, ⊤}
use Rattle.ht_base.specs.declared.event.Event.{Event}
use Rattle.ht_base.specs.declared.event.Event.TheVariants.{Turn, Ask, Read}
use Rattle.ht_outside.specs.Causes.{Rose}
use Rattle.ht_doors.specs.Doors.{DoorState, LinkState, fresh}
use Rattle.ht_serve.specs.declared.ending.Ending.{Ending}
use Rattle.ht_serve.specs.declared.ending.Ending.TheVariants.{Memory, ReadFault, WriteFault}
use Rattle.ht_serve.specs.Calls.{Call}
use Rattle.ht_serve.specs.Inputs.{IsEndingOf}
use Rattle.ht_serve.specs.Serving.{Served, sides}
use Rattle.ht_workers.specs.declared.working.WorkEnd.{WorkEnd}
use Rattle.ht_workers.specs.declared.working.WorkEnd.TheVariants as ended
use Rattle.ht_workers.specs.Counts.{Rises}

-- the most requests of one connection, of which the reply to the last closes it
abbrev pub connection_budget : ℕ
connection_budget = 10000

-- a command or a question, and no turn
abbrev pub IsAsked : Event → Type 0
IsAsked (Turn at) = ⊥
IsAsked (Ask at caller retry task command) = Unit {0}
IsAsked (Read caller query) = Unit {0}

abbrev pub AreAsked : List Call → Type 0
AreAsked [] = Unit {0}
AreAsked (c ∷ cs) = IsAsked c.event × AreAsked cs

-- the link was served from its beginning to its ending, there was memory, and these calls were made for
-- it, in order, each once
pub record IsServed (Spent : Type 0) (link : LinkState) (calls : List Call) : Type 0 where
  pub bytes : List ℕ
  pub ending : Ending
  pub memory : ending ≢ Memory
  -- whatever the clock told
  pub from : Option (ℕ → ℕ)
  pub to : Option (ℕ → ℕ)
  pub served : Served (λ cs. cs ≡ calls) Spent true connection_budget 0 (sides (fresh bytes).input (fresh bytes).output from) (sides link.input link.output to) [] ending
  pub exact : ending ≢ ReadFault → ending ≢ WriteFault → IsEndingOf true connection_budget (fresh bytes).input.flow ending

-- the calls are those of these links, one link behind the other
abbrev pub AreServed : Type 0 → List LinkState → List Call → Type 0
AreServed Spent [] calls = calls ≡ []
AreServed Spent (l ∷ ls) calls = (mine : List Call) × (others : List Call) × (calls ≡ mine ++ others) × IsServed Spent l mine × AreServed Spent ls others

-- where the door tells, so many links were handed back, and the calls are theirs
abbrev pub HandsBack : Type 0 → ℕ → Option (List LinkState) → Option (List LinkState) → List Call → Type 0
HandsBack Spent n None None calls = ⊤
HandsBack Spent n None (Some new) calls = ⊥
HandsBack Spent n (Some old) None calls = ⊥
HandsBack Spent n (Some old) (Some new) calls = (links : List LinkState) × (new ≡ old ++ links) × (length links ≡ n) × AreServed Spent links calls

-- so many connections were taken, served and handed back, and no other calls were made; none is a turn
pub record Works (Made : List Call → Type 0) (Spent : Type 0) (n : ℕ) (old new : DoorState) : Type 0 where
  pub calls : List Call
  pub made : Made calls
  pub asked : AreAsked calls
  pub links : Rises old.links new.links n
  pub faults : old.faults ≤ new.faults
  pub back : HandsBack Spent n old.back new.back calls

-- The worker stopped behind so many connections: no other was taken, or one, which wasn't handed back
-- and for which these last calls were made.
pub record Stops (Made : List Call → Type 0) (Spent : Type 0) (n : ℕ) (old new : DoorState) : Type 0 where
  pub calls : List Call
  pub last : List Call
  pub made : Made (calls ++ last)
  pub asked : AreAsked (calls ++ last)
  pub links : (Rises old.links new.links n × (last ≡ [])) ⊎ Rises old.links new.links (n + 1)
  pub faults : old.faults ≤ new.faults
  pub back : HandsBack Spent n old.back new.back calls

-- ---- how a worker ends, whose share is so many connections, or which has no share and goes on without
-- end

-- it served its share
abbrev pub ServesShare : (List Call → Type 0) → Type 0 → Option ℕ → DoorState → DoorState → Type 0
ServesShare Made Spent None old new = ⊥
ServesShare Made Spent (Some n) old new = Works Made Spent n old new

-- it stopped before
abbrev pub StopsBefore : (List Call → Type 0) → Type 0 → Option ℕ → DoorState → DoorState → Type 0
StopsBefore Made Spent share old new = (n : ℕ) × IfSome share (λ most. n < most) × Stops Made Spent n old new

-- a door is told only where one of its calls failed; memory has no cause that is seen
abbrev pub EndsWork : (List Call → Type 0) → Type 0 → Option ℕ → DoorState → DoorState → WorkEnd → Type 0
EndsWork Made Spent share old new ended.Done = ServesShare Made Spent share old new
EndsWork Made Spent share old new ended.Door = StopsBefore Made Spent share old new × Rose old.faults new.faults
EndsWork Made Spent share old new ended.Memory = StopsBefore Made Spent share old new

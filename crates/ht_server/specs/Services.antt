-- An office that is served: it is opened, a crew serves connections at a port, and what was counted is written.
use Rattle.std.specs.Prelude.{◌≡◌, ◌⊎◌, ℕ, ◌+◌, List, [], ◌∷◌, ◌++◌, Result, Ok, Err, codes, cond, decimal, map}
use Rattle.ht_base.specs.Readings.{call_of}
use Rattle.ht_base.specs.Records.{RecordOf}
use Rattle.ht_base.specs.declared.event.Event.{Event}
use Rattle.ht_base.specs.declared.event.Event.TheVariants.{Turn, Ask, Read}
use Rattle.ht_desk.specs.declared.counts.Counts.{Counts}
use Rattle.ht_desk.specs.declared.desk_state.DeskState.{DeskState}
use Rattle.ht_desk.specs.declared.fault.OpenFault.{OpenFault}
use Rattle.ht_desk.specs.Counting.{capped}
use Rattle.ht_desk.specs.Keeping.{IsAt}
use Rattle.ht_desk.specs.Replaying.{TextsOf}
use Rattle.ht_desk.specs.States.{State, is_asking}
use Rattle.ht_desk.specs.Steps.{Steps}
use Rattle.ht_doors.specs.Doors.{DoorState}
use Rattle.ht_outside.specs.declared.disk.Disk.{Ghosts}
use Rattle.ht_outside.specs.Causes.{Rose}
use Rattle.ht_outside.specs.Tells.{Grows, GrowsPart, SinkState}
use Rattle.ht_pool.specs.declared.crew.Crew.{Crew}
use Rattle.ht_pool.specs.Crews.{IsCrewOf, RunsCrew, Said}
use Rattle.ht_program.specs.Attaching.{Disks}
use Rattle.ht_program.specs.Office.{KeptOn, NotOpenedOn, Outside, RunsOffice}
use Rattle.ht_program.specs.Reading.{AsksFor, Reads}
use Rattle.ht_program.specs.Running.{Complains}
use Rattle.ht_program.specs.Words.{Service, WordsOf}
use Rattle.ht_program.specs.Words.WorkOf.{serving}
use Rattle.ht_server.specs.declared.service.ServiceEnd.{ServiceEnd}
use Rattle.ht_server.specs.declared.service.ServiceEnd.TheVariants as end
use Rattle.ht_workers.specs.declared.working.WorkEnd.{WorkEnd}
use Rattle.ht_workers.specs.declared.working.WorkEnd.TheVariants as ended

-- ---- what was counted

abbrev pub is_turn : Event → ℕ
is_turn (Turn at) = 1
is_turn (Ask at caller retry task command) = 0
is_turn (Read caller query) = 0

-- how many turns were made, and how many timed actions were taken
abbrev pub turns_in : List Said → ℕ
turns_in [] = 0
turns_in (c ∷ cs) = is_turn c.1 + turns_in cs

abbrev pub taken_in : List Said → ℕ
taken_in [] = 0
taken_in (c ∷ cs) = c.2.taken + taken_in cs

-- how many of the records are of commands
abbrev pub asked_in : List RecordOf → ℕ
asked_in [] = 0
asked_in (r ∷ rs) = cond (is_asking r) 1 0 + asked_in rs

-- The counts of an office that was opened in the one state and came to the other by these calls: of its turns, of the
-- records of commands that joined those of its journal, and of the timed actions that were taken. A count stops at 2^64 - 1.
pub record Counted (opened last : State) (said : List Said) : Type 0 where
  pub more : List RecordOf
  pub records : last.records ≡ opened.records ++ more
  pub turns : last.counts.turns ≡ capped (turns_in said)
  pub accepted : last.counts.accepted ≡ capped (asked_in more)
  pub taken : last.counts.taken ≡ capped (taken_in said)

abbrev pub counts_line : Counts → List ℕ
counts_line c = codes "turns " ++ decimal c.turns ++ codes " accepted " ++ decimal c.accepted ++ codes " raised " ++ decimal c.taken ++ codes "\n"

-- ---- how a service ends

-- behind a crew that ended so; where all connections were served the line is written, or a part of it
abbrev pub EndsService : WorkEnd → List ℕ → SinkState → SinkState → ServiceEnd → Type 0
EndsService ended.Done line old new end.Done = Grows old.written new.written line
EndsService ended.Done line old new end.Pipe = GrowsPart old.written new.written line × Rose old.faults new.faults
EndsService ended.Done line old new end.Door = ⊥
EndsService ended.Done line old new end.Memory = ⊥
EndsService ended.Door line old new ending = (ending ≡ end.Door) × (new ≡ old)
EndsService ended.Memory line old new ending = (ending ≡ end.Memory) × (new ≡ old)

-- The office went from the one state to the other by the calls of a crew, if it listened at all.
pub record Served (crew : Crew) (first last : State) (doors_before doors_after : DoorState) (old new : SinkState) (ending : ServiceEnd) : Type 0 where
  pub crew_end : WorkEnd
  pub runs : RunsCrew Steps crew first last doors_before doors_after crew_end
  pub ends : EndsService crew_end (counts_line last.counts) old new ending

-- of a desk and its disk, in whichever state of an office the desk was
abbrev pub ServesOver : {D : Type 0} → Ghosts D → Crew → DeskState → D → D → DoorState → DoorState → SinkState → SinkState → ServiceEnd → Type 0
ServesOver d crew desk disk_before disk_after doors_before doors_after old new ending =
    (beside : ℕ) (texts : TextsOf) (s : State) → IsAt d beside texts s desk disk_before
    → (t : State) × (last : DeskState) × Served crew s t doors_before doors_after old new ending × IsAt d beside texts t last disk_after

-- ---- over two disks

-- a crew as the words say
pub record IsCrewFor (service : Service) (crew : Crew) : Type 0 where
  pub workers : crew.workers ≡ service.workers
  pub tick : crew.tick ≡ service.tick
  pub connections : crew.connections ≡ service.connections

-- It was opened and served; or it wasn't opened, and nothing was written.
pub record ServedOn {D : Type 0} (d : Ghosts D) (service : Service) (said : WordsOf) (texts : TextsOf) (before after : Disks D) (doors_before doors_after : DoorState) (old new : SinkState) (ending : ServiceEnd) : Type 0 where
  pub crew : Crew
  pub crew_for : IsCrewFor service crew
  pub opened : State
  pub last : State
  pub keeps : KeptOn d said texts before after opened last
  pub served : Served crew opened last doors_before doors_after old new ending
  pub counted : Counted opened last (map call_of served.runs.history)

abbrev pub Serves : {D : Type 0} → Ghosts D → Service → WordsOf → TextsOf → Disks D → Disks D → DoorState → DoorState → SinkState → SinkState → Result ServiceEnd OpenFault → Type 0
Serves d service said texts before after doors_before doors_after old new (Ok ending) = ServedOn d service said texts before after doors_before doors_after old new ending
Serves d service said texts before after doors_before doors_after old new (Err fault) = NotOpenedOn d texts before after fault × (doors_after ≡ doors_before) × (new ≡ old)

-- ---- the program

abbrev pub service_status : ServiceEnd → ℕ
service_status end.Done = 0
service_status end.Pipe = 7
service_status end.Memory = 8
service_status end.Door = 10

abbrev pub service_line : ServiceEnd → List ℕ
service_line end.Done = []
service_line end.Pipe = []
service_line end.Memory = codes "memory\n"
service_line end.Door = codes "door\n"

-- The texts were read, and the office was opened and served.
pub record HasServed {D : Type 0} (d : Ghosts D) (said : WordsOf) (before after : Disks D) (doors_before doors_after : DoorState) (old new : Outside) (status : ℕ) : Type 0 where
  pub service : Service
  pub asked : said.work ≡ serving service
  pub texts : TextsOf
  pub reads : Reads said.texts old.texts.texts (Ok texts)
  pub asks : AsksFor said.texts old.texts new.texts (Ok texts)
  pub ending : ServiceEnd
  pub served : ServedOn d service said texts before after doors_before doors_after old.connection.output new.connection.output ending
  pub unread : new.connection.input ≡ old.connection.input
  pub status_is : status ≡ service_status ending
  pub complains : Complains old.complaints new.complaints (service_line ending)

-- Any command but `serve` runs as by one thread, and so does `serve` where no office was opened; then the door stays as it
-- was. Else the office was served.
abbrev pub OfficeRuns : {D : Type 0} → Ghosts D → WordsOf → Disks D → Disks D → DoorState → DoorState → Outside → Outside → ℕ → Type 0
OfficeRuns d said before after doors_before doors_after old new status =
    (RunsOffice d said before after old new status × (doors_after ≡ doors_before)) ⊎ HasServed d said before after doors_before doors_after old new status

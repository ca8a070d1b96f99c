-- The whole program: its texts are read, its office is opened, and does what the command asks; or the texts are
-- judged.
use Rattle.std.specs.Prelude.{◌≡◌, ◌≢◌, ◌⊎◌, ℕ, List, [], Option, Some, None, Result, Ok, Err, IfSome, option_map, unwrap_or}
use Rattle.ht_outside.specs.declared.disk.Disk.{Ghosts}
use Rattle.ht_outside.specs.declared.sink.Sink as sink
use Rattle.ht_outside.specs.declared.source.Source as source
use Rattle.ht_outside.specs.declared.texts.Texts as texts
use Rattle.ht_outside.specs.Causes.{Rose, together}
use Rattle.ht_outside.specs.Tells.{SourceState, SinkState}
use Rattle.ht_outside.specs.Texts.{TextsState}
use Rattle.ht_desk.specs.declared.desk_state.DeskState.{DeskState}
use Rattle.ht_desk.specs.declared.fault.OpenFault.{OpenFault}
use Rattle.ht_desk.specs.declared.fault.OpenFault.TheVariants.{Store}
use Rattle.ht_desk.specs.Keeping.{IsAt}
use Rattle.ht_desk.specs.Opening.{Fails, IsBegunAtMost, IsOpenFault, Opens}
use Rattle.ht_desk.specs.Records.{Finds, bodies_of, spelling}
use Rattle.ht_desk.specs.Replaying.{TextsOf}
use Rattle.ht_desk.specs.States.{IsOpened, State}
use Rattle.ht_journal.specs.Parts.{Stands}
use Rattle.ht_serve.specs.declared.ending.Ending.{Ending}
use Rattle.ht_program.specs.declared.reading.TextsFault.{TextsFault}
use Rattle.ht_program.specs.Attaching.{Disks}
use Rattle.ht_program.specs.Checking.{Checks}
use Rattle.ht_program.specs.Folding.{IsIn, file_of, office_of}
use Rattle.ht_program.specs.Reading.{AsksFor, Reads}
use Rattle.ht_program.specs.Running.{Complains, Streams, streams}
use Rattle.ht_program.specs.Statuses.{end_line, end_status, missing_line, missing_status}
use Rattle.ht_program.specs.Words.{WordsOf}
use Rattle.ht_program.specs.Words.WorkOf.{checking}
use Rattle.ht_program.specs.Working.{Did, DidOver, DidWhole}

-- what each object of the outside tells but the disks
pub record Outside : Type 0 where
  pub texts : TextsState
  pub connection : Streams
  pub complaints : SinkState

abbrev pub outside : TextsState → SourceState → SinkState → SinkState → Outside
outside texts input output complaints = record { texts = texts; connection = streams input output; complaints = complaints }

-- of texts, a source and two sinks
abbrev pub outside_of : {X S K Q : Type 0} → texts.Ghosts X → source.Ghosts S → sink.Ghosts K → sink.Ghosts Q → X → S → K → Q → Outside
outside_of named reads writes tells x s k q = outside (named.texts_state x) (reads.source_state s) (writes.sink_state k) (tells.sink_state q)

-- ---- over one disk

-- An office was opened over it, and did what the command asks. Or it wasn't opened; then nothing was read of the input,
-- and nothing written to the output.
abbrev pub RunsOver : {D : Type 0} → Ghosts D → WordsOf → TextsOf → D → D → Streams → Streams → Result Ending OpenFault → Type 0
RunsOver {D} d said texts disk_before disk_after old new (Ok ending) =
    (desk : DeskState) × (mid : D) × Opens d texts said.limit disk_before mid (Ok desk) × DidOver d said.work desk mid disk_after old new ending
RunsOver d said texts disk_before disk_after old new (Err fault) = Opens d texts said.limit disk_before disk_after (Err fault) × (new ≡ old)

-- ---- the office

-- It was opened in this state, in which it has the records of the file, as far as that is told.
pub record OpenedAs (said : WordsOf) (texts : TextsOf) (file : Option (List ℕ)) (opened : State) : Type 0 where
  pub office : IsIn texts file (office_of opened)
  pub begun : IsOpened said.limit opened

-- In memory it did what the command asks, which left it in the last state, and no disk failed.
pub record WorkedInMemory (said : WordsOf) (texts : TextsOf) (old new : Streams) (ending : Ending) : Type 0 where
  pub opened : State
  pub last : State
  pub opens : OpenedAs said texts (Some []) opened
  pub did : Did said.work opened last old new ending
  pub no_faults : (opened.faults ≡ 0) × (last.faults ≡ 0)
  pub none_failed : DidWhole said.work opened last old new ending did

-- An office that went from the one state, in which it was opened, to the other was kept on two disks. The faults of each
-- state are theirs together, and the first holds the records of the last state and no more; or these and the one in
-- doubt, where one stands, whose gate may hold anything. The second is neither read nor written.
pub record KeptOn {D : Type 0} (d : Ghosts D) (said : WordsOf) (texts : TextsOf) (before after : Disks D) (opened last : State) : Type 0 where
  pub opens : OpenedAs said texts (d.gives before.first) opened
  pub opened_faults : opened.faults ≡ together (d.faults before.first) (d.faults before.second)
  pub last_faults : last.faults ≡ together (d.faults after.first) (d.faults after.second)
  pub holds : IfSome (d.gives after.first) (Stands (bodies_of last.records) (option_map spelling last.doubt))
  pub found : last.doubt ≡ None → IfSome (d.gives after.first) (Finds last.records)
  pub desk : DeskState
  pub kept : IsAt d (d.faults after.second) texts last desk after.first
  pub second : d.gives after.second ≡ d.gives before.second

-- on two disks it did what the command asks
pub record WorkedOn {D : Type 0} (d : Ghosts D) (said : WordsOf) (texts : TextsOf) (before after : Disks D) (old new : Streams) (ending : Ending) : Type 0 where
  pub opened : State
  pub last : State
  pub keeps : KeptOn d said texts before after opened last
  pub did : Did said.work opened last old new ending

-- Why an office wasn't opened over two disks: as an opening of the first says, or a disk failed. The first holds what it
-- did, or the first record where it held none.
pub record NotOpenedOn {D : Type 0} (d : Ghosts D) (texts : TextsOf) (before after : Disks D) (fault : OpenFault) : Type 0 where
  pub why : IsOpenFault texts (d.gives before.first) (d.faults before.first) (d.faults after.first) fault
      ⊎ ((fault ≡ Store) × Rose (d.faults before.second) (d.faults after.second))
  pub holds : IfSome (d.gives before.first) (λ file. IfSome (d.gives after.first) (IsBegunAtMost texts file))
  pub second : d.gives after.second ≡ d.gives before.second

-- with a journal on the disks, and without; then the disks stay as they were
abbrev pub Runs : {D : Type 0} → Ghosts D → Option (List ℕ) → WordsOf → TextsOf → Disks D → Disks D → Streams → Streams → Result Ending OpenFault → Type 0
Runs d (Some name) said texts before after old new (Ok ending) = WorkedOn d said texts before after old new ending
Runs d (Some name) said texts before after old new (Err fault) = NotOpenedOn d texts before after fault × (new ≡ old)
Runs d None said texts before after old new (Ok ending) = WorkedInMemory said texts old new ending × (after ≡ before)
Runs d None said texts before after old new (Err fault) = IsOpenFault texts (Some []) 0 0 fault × (new ≡ old) × (after ≡ before)

-- `check` opens no office, and leaves the input and the disks as they were
abbrev pub ChecksOrRuns : {D : Type 0} → Ghosts D → WordsOf → TextsOf → Disks D → Disks D → Streams → Streams → Result Ending OpenFault → Type 0
ChecksOrRuns d said texts before after old new end =
    ((said.work ≡ checking) × Checks texts old.output new.output end × (new.input ≡ old.input) × (after ≡ before))
    ⊎ ((said.work ≢ checking) × Runs d said.journal said texts before after old new end)

-- ---- the program

-- its texts were read, and were judged; or the office was opened and worked, or wasn't opened
pub record HasRun {D : Type 0} (d : Ghosts D) (said : WordsOf) (before after : Disks D) (old new : Outside) (status : ℕ) : Type 0 where
  pub texts : TextsOf
  pub reads : Reads said.texts old.texts.texts (Ok texts)
  pub asks : AsksFor said.texts old.texts new.texts (Ok texts)
  pub end : Result Ending OpenFault
  pub status_is : status ≡ end_status end
  pub runs : ChecksOrRuns d said texts before after old.connection new.connection end
  pub complains : Complains old.complaints new.complaints (end_line end)

-- they are missing; then nothing else was touched
pub record HasNoTexts {D : Type 0} (said : WordsOf) (before after : Disks D) (old new : Outside) (status : ℕ) : Type 0 where
  pub why : TextsFault
  pub reads : Reads said.texts old.texts.texts (Err why)
  pub asks : AsksFor said.texts old.texts new.texts (Err why)
  pub status_is : status ≡ missing_status why
  pub untouched : (new.connection ≡ old.connection) × (after ≡ before)
  pub complains : Complains old.complaints new.complaints (missing_line (unwrap_or said.texts ([], [])) why)

abbrev pub RunsOffice : {D : Type 0} → Ghosts D → WordsOf → Disks D → Disks D → Outside → Outside → ℕ → Type 0
RunsOffice d said before after old new status = HasRun d said before after old new status ⊎ HasNoTexts said before after old new status

-- something is wrong with the journal of the office of these texts
abbrev pub IsAtFault : WordsOf → (List ℕ → List ℕ) → List ℕ → Type 0
IsAtFault said text file = (texts : TextsOf) × Reads said.texts (Some text) (Ok texts) × ((fault : OpenFault) × Fails texts (file_of said.journal file) fault)

-- What the commands do with an office that was opened.
use Rattle.std.specs.Prelude.{◌≡◌, ℕ, List, Option}
use Rattle.ht_desk.specs.declared.desk_state.DeskState.{DeskState}
use Rattle.ht_desk.specs.Keeping.{IsAt}
use Rattle.ht_desk.specs.Replaying.{TextsOf}
use Rattle.ht_desk.specs.States.{State}
use Rattle.ht_export.specs.Lines.{export_text}
use Rattle.ht_journal.specs.Rooms.{IsRoomy}
use Rattle.ht_load.specs.declared.sums.Sums.{Sums}
use Rattle.ht_load.specs.Answers as load
use Rattle.ht_load.specs.Loads.{Loads, LoadsOver}
use Rattle.ht_load.specs.Sums.{sums_line}
use Rattle.ht_outside.specs.declared.disk.Disk.{Ghosts}
use Rattle.ht_outside.specs.Causes.{RoseWhere}
use Rattle.ht_outside.specs.Clocks.{moment_of}
use Rattle.ht_outside.specs.Tells.{Grows, GrowsPart, SinkState}
use Rattle.ht_serve.specs.declared.ending.Ending.{Ending}
use Rattle.ht_serve.specs.declared.ending.Ending.TheVariants.{Done, Wire, Budget, ReadFault, WriteFault, Memory}
use Rattle.ht_serve.specs.Exchanges.{calls}
use Rattle.ht_program.specs.Inputs.{budget}
use Rattle.ht_program.specs.Running.{NoneFailed, Ran, Streams}
use Rattle.ht_program.specs.Words.{WorkOf}
use Rattle.ht_program.specs.Words.WorkOf.{checking, exporting, loading, running, serving}

-- ---- a text that is written

-- all of it; or a part of it, where a write failed or there was no memory
abbrev pub Writes : List ℕ → Option (List ℕ) → Option (List ℕ) → Ending → Type 0
Writes text old new Done = Grows old new text
Writes text old new WriteFault = GrowsPart old new text
Writes text old new Memory = GrowsPart old new text
Writes text old new (Wire code) = ⊥
Writes text old new Budget = ⊥
Writes text old new ReadFault = ⊥

-- nothing else was written
pub record Tells (text : List ℕ) (old new : SinkState) (ending : Ending) : Type 0 where
  pub wrote : Writes text old.written new.written ending
  pub cause : RoseWhere (ending ≡ WriteFault) old.faults new.faults

-- ---- of a durable office that went from one state to another

-- all its tasks are written
pub record Exported (s t : State) (old new : Streams) (ending : Ending) : Type 0 where
  pub same : t ≡ s
  pub tells : Tells (export_text s.tables) old.output new.output ending
  pub unread : new.input ≡ old.input

-- so many requests from a seed were made, and their sums are written
pub record Loaded (seed count : ℕ) (s t : State) (old new : Streams) (ending : Ending) : Type 0 where
  pub sums : Sums
  pub loads : Loads seed count s t sums
  pub tells : Tells (sums_line sums) old.output new.output ending
  pub unread : new.input ≡ old.input

-- No office is opened to judge texts. Connections over a port are served by workers, of which nothing is said here.
abbrev pub Did : WorkOf → State → State → Streams → Streams → Ending → Type 0
Did (running from step) s t old new ending = Ran (moment_of from step) budget s t old new ending
Did (serving service) s t old new ending = ⊥
Did checking s t old new ending = ⊥
Did exporting s t old new ending = Exported s t old new ending
Did (loading seed count) s t old new ending = Loaded seed count s t old new ending

-- no reply of it tells that a disk failed
abbrev pub DidWhole : (work : WorkOf) (s t : State) (old new : Streams) (ending : Ending) → Did work s t old new ending → Type 0
DidWhole (running from step) s t old new ending did = NoneFailed (calls (did.served).exchanges)
DidWhole (serving service) s t old new ending did = Unit {0}
DidWhole checking s t old new ending did = Unit {0}
DidWhole exporting s t old new ending did = Unit {0}
DidWhole (loading seed count) s t old new ending did = load.NoneFailed ((did.loads).load).history

-- ---- of a desk and its disk

-- The same in whichever state of an office the desk was. Over a disk with room for the whole journal no disk failed.
abbrev pub DidOver : {D : Type 0} → Ghosts D → WorkOf → DeskState → D → D → Streams → Streams → Ending → Type 0
DidOver d work desk disk_before disk_after old new ending =
    (beside : ℕ) (texts : TextsOf) (s : State) → IsAt d beside texts s desk disk_before
    → (t : State) × (last : DeskState) × (did : Did work s t old new ending) × IsAt d beside texts t last disk_after
    × (IsRoomy (d.room disk_before) s.limit → (t.faults ≡ s.faults) × DidWhole work s t old new ending did)

-- a load of a desk was made, and its sums are written
pub record LoadsAndTells {D : Type 0} (d : Ghosts D) (seed count : ℕ) (desk : DeskState) (disk_before disk_after : D) (old new : SinkState) (ending : Ending) : Type 0 where
  pub sums : Sums
  pub last : DeskState
  pub loads : LoadsOver d seed count desk last disk_before disk_after sums
  pub tells : Tells (sums_line sums) old new ending

-- What an opening finds.
use Rattle.std.specs.Prelude.{◌≡◌, ◌≢◌, ◌⊎◌, ℕ, ◌+◌, ◌-◌, ◌≤◌, List, [], ◌∷◌, take, Option, IfSome, Result, Ok, Err, IfOk, IfErr, OnOk, IsTrue, ⊤}
use Rattle.ht_base.specs.Records.{RecordOf}
use Rattle.ht_codec.specs.Records.{Refuses, Spells}
use Rattle.ht_codec.specs.declared.refusal.CodecRefusal.{CodecRefusal}
use Rattle.ht_codec.specs.declared.refusal.CodecRefusal.TheVariants as codec
use Rattle.ht_desk.specs.declared.fault.OpenFault.{OpenFault}
use Rattle.ht_desk.specs.declared.fault.OpenFault.TheVariants.{Models, People, Damaged, RecordRefused, TextsDiffer, Store, Memory}
use Rattle.ht_desk.specs.declared.desk_state.DeskState.{DeskState}
use Rattle.ht_desk.specs.Faults.{ComesWhere}
use Rattle.ht_desk.specs.Keeping.{IsAt}
use Rattle.ht_desk.specs.Records.{AreSpelled, Finds, bodies_of}
use Rattle.ht_desk.specs.Replaying.{Applies, Begins, IsJournalOf, TextsOf, opening_of}
use Rattle.ht_desk.specs.States.{IsOpened, State}
use Rattle.ht_journal.specs.Bodies.{IsNth}
use Rattle.ht_journal.specs.Files.{contents}
use Rattle.ht_journal.specs.Rooms.{IsRoomy}
use Rattle.ht_models.specs.declared.refusal.ModelsRefusal.TheVariants as models_refusal
use Rattle.ht_models.specs.Reading as models_text
use Rattle.ht_outside.specs.Moments.{LeavesOnly}
use Rattle.ht_outside.specs.declared.disk.Disk.{Ghosts}
use Rattle.ht_people.specs.declared.refusal.PeopleRefusal.TheVariants as people_refusal
use Rattle.ht_people.specs.Reading as people_text
use Rattle.ht_tree.specs.Tables.{TablesOf}

-- ---- a body that is at fault

-- a body that is no record is damaged at the place of its first fault in the file
abbrev pub damage_of : ℕ → CodecRefusal → OpenFault
damage_of at (codec.Short n) = Damaged (at + n)
damage_of at (codec.Tag n) = Damaged (at + n)
damage_of at (codec.Range n) = Damaged (at + n)
damage_of at (codec.Trailing n) = Damaged (at + n)
damage_of at codec.Memory = Memory

-- the body that begins at this place is no record
abbrev pub IsNoRecord : ℕ → List ℕ → OpenFault → Type 0
IsNoRecord at body fault = (why : CodecRefusal) × Refuses body why × (fault ≡ damage_of at why)

-- it is a record, but no Opening
abbrev pub IsNoOpening : List ℕ → Type 0
IsNoOpening body = (r : RecordOf) × Spells r body × ((texts : TextsOf) → r ≢ opening_of texts)

-- it is an Opening, but of other texts
abbrev pub IsOfOthers : TextsOf → List ℕ → Type 0
IsOfOthers texts body = (others : TextsOf) × Spells (opening_of others) body × (others ≢ texts)

-- it is a record, but the machine, given its event on these tables, doesn't leave just this record
abbrev pub IsNotLeft : TablesOf → List ℕ → Type 0
IsNotLeft t body = (r : RecordOf) × Spells r body × ((u : TablesOf) → Applies t r u → ⊥)

-- what is at fault with the first body of an office of these texts
abbrev pub FailsFirst : TextsOf → ℕ → List ℕ → OpenFault → Type 0
FailsFirst texts at body fault =
    IsNoRecord at body fault ⊎ (IsNoOpening body × (fault ≡ RecordRefused 1)) ⊎ (IsOfOthers texts body × (fault ≡ TextsDiffer))

-- and with a later one, by its number, where those before it lead to these tables
abbrev pub FailsNext : TablesOf → ℕ → ℕ → List ℕ → OpenFault → Type 0
FailsNext t n at body fault = IsNoRecord at body fault ⊎ (IsNotLeft t body × (fault ≡ RecordRefused n))

-- ---- a file that is at fault

-- Of these bodies the first is at fault; or a later one is, and those before it are the records of an office of these
-- texts.
pub data FailsAt (texts : TextsOf) (bodies : List (List ℕ)) (fault : OpenFault) : Type 0 where
  at_first : (at : ℕ) (body : List ℕ) → IsNth bodies 1 at body → FailsFirst texts at body fault → FailsAt texts bodies fault
  at_next : (n at : ℕ) (body : List ℕ) (before : List RecordOf) (t : TablesOf) → IsNth bodies n at body → take (n - 1) bodies ≡ bodies_of before → AreSpelled before → IsJournalOf texts before t → FailsNext t n at body fault → FailsAt texts bodies fault

-- the header or a frame is damaged; or they are whole, and a body is at fault
abbrev pub Fails : TextsOf → List ℕ → OpenFault → Type 0
Fails texts file fault =
    ((at : ℕ) × (contents file ≡ Err at) × (fault ≡ Damaged at)) ⊎ ((bodies : List (List ℕ)) × (contents file ≡ Ok bodies) × FailsAt texts bodies fault)

-- ---- the faults

-- why a text is refused: the models text is judged first. Want of memory says nothing of it
abbrev pub IsTextFault : TextsOf → OpenFault → Type 0
IsTextFault texts (Models why) = models_text.Reads texts.models (Err why) × (why ≢ models_refusal.Memory)
IsTextFault texts (People why) =
    ((models : _) × models_text.Reads texts.models (Ok models)) × people_text.Reads texts.people (Err why) × (why ≢ people_refusal.Memory)
IsTextFault texts Memory = ⊤
IsTextFault texts other = ⊥

-- both texts are read, and the file is at fault, where the disk tells it
abbrev pub IsFileFault : TextsOf → Option (List ℕ) → OpenFault → Type 0
IsFileFault texts file fault = ((t : TablesOf) × Begins texts t) × IfSome file (λ f. Fails texts f fault)

-- When an opening ends with which fault, over a disk whose count of faults went from before to now: the texts are judged
-- first, and then the file.
abbrev pub IsOpenFault : TextsOf → Option (List ℕ) → ℕ → ℕ → OpenFault → Type 0
IsOpenFault texts file before now (Models why) = IsTextFault texts (Models why) × (now ≡ before)
IsOpenFault texts file before now (People why) = IsTextFault texts (People why) × (now ≡ before)
IsOpenFault texts file before now fault = ComesWhere (IsFileFault texts file) before now fault

-- Why it ends with this fault, where nothing is said of the disk afterwards
abbrev pub IsReason : TextsOf → Option (List ℕ) → OpenFault → Type 0
IsReason texts file (Models why) = IsTextFault texts (Models why)
IsReason texts file (People why) = IsTextFault texts (People why)
IsReason texts file Store = ⊤
IsReason texts file Memory = ⊤
IsReason texts file fault = IsFileFault texts file fault

-- ---- what an opening leaves

-- A reader finds the same as in the file before; or there was no record, and there is the Opening now.
abbrev pub IsBegunAtMost : TextsOf → List ℕ → List ℕ → Type 0
IsBegunAtMost texts file now = (contents now ≡ contents file) ⊎ ((contents file ≡ Ok []) × Finds (opening_of texts ∷ []) now)

-- the records are those of the file; or it had none, and they are the Opening
abbrev pub AreOfFile : TextsOf → List RecordOf → List ℕ → Type 0
AreOfFile texts records file = Finds records file ⊎ ((contents file ≡ Ok []) × (records ≡ opening_of texts ∷ []))

-- a desk with its disk is in such a state: nothing is in doubt, nothing is counted yet, and its records are those of the
-- file, where the disk tells it
pub record StandsOpen {D : Type 0} (d : Ghosts D) (texts : TextsOf) (limit beside : ℕ) (old new : D) (desk : DeskState) : Type 0 where
  pub state : State
  pub at : IsAt d beside texts state desk new
  pub opened : IsOpened limit state
  pub file : IfSome (d.gives old) (AreOfFile texts state.records)

-- An opening for an office with these texts took the disk from old to new, and answered this.
pub record Opens {D : Type 0} (d : Ghosts D) (texts : TextsOf) (limit : ℕ) (old new : D) (answer : Result DeskState OpenFault) : Type 0 where
  -- however often the other disk failed
  pub found : IfOk answer (λ desk. (beside : ℕ) → StandsOpen d texts limit beside old new desk)
  pub refused : IfErr answer (IsOpenFault texts (d.gives old) (d.faults old) (d.faults new))
  -- at every moment since it began, an image is one from before, or holds what the file did, or the file held no record and it
  -- holds the first
  pub any_moment : IsTrue (d.tells_images old) → LeavesOnly d old new (λ image. d.may_leave old image ⊎ IfSome (d.gives old) (λ file. IsBegunAtMost texts file image))
  -- so does the file afterwards, also where the opening is refused
  pub begun : IfSome (d.gives old) (λ file. IfSome (d.gives new) (IsBegunAtMost texts file))
  pub room : d.room new ≡ d.room old
  pub in_room : IsRoomy (d.room old) limit → answer ≢ Err Store
  pub faults : d.faults old ≤ d.faults new
  pub still : OnOk answer (d.faults new ≡ d.faults old)
  pub tells : d.tells_images new ≡ d.tells_images old

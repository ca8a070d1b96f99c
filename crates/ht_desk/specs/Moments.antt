-- What a crash leaves of a step, at any moment.
use Rattle.std.specs.Prelude.{◌⊎◌, ℕ, List, [], ◌∷◌, ◌++◌, Some, IsTrue}
use Rattle.ht_base.specs.declared.event.Event.{Event}
use Rattle.ht_base.specs.declared.record.Record.{Record}
use Rattle.ht_base.specs.declared.reply.Reply.{Reply}
use Rattle.ht_base.specs.Records.{RecordOf, record_of}
use Rattle.ht_desk.specs.Records.{AreSpelled, Finds, FindsAlso, IsSpelled}
use Rattle.ht_desk.specs.Replaying.{IsJournalOf, TextsOf}
use Rattle.ht_desk.specs.States.{State}
use Rattle.ht_machine.specs.Deciding.{Decides}
use Rattle.ht_outside.specs.Moments.{LeavesOnly}
use Rattle.ht_outside.specs.declared.disk.Disk.{Ghosts}
use Rattle.ht_tree.specs.Tables.{TablesOf}

-- the records of a state, and behind them the one that the event leaves
abbrev pub FindsNew : State → Event → List ℕ → Type 0
FindsNew mid event image =
    (r : Record) × (d : Reply) × (u : TablesOf) × Decides mid.tables event (Some r) d u × IsSpelled (record_of r) × Finds (mid.records ++ record_of r ∷ []) image

-- Within a step: the records before it, these and the one in doubt, those after the doubt was settled, or these and the
-- step's own.
abbrev pub MayFind : State → State → Event → List ℕ → Type 0
MayFind old mid event image = Finds old.records image ⊎ FindsAlso old.records old.doubt image ⊎ Finds mid.records image ⊎ FindsNew mid event image

-- It holds the records of an office of these texts. So an opening finds it at fault in nothing.
abbrev pub IsOffice : TextsOf → List ℕ → Type 0
IsOffice texts image = (records : List RecordOf) × (t : TablesOf) × AreSpelled records × IsJournalOf texts records t × Finds records image

-- A step of an office took its state from old to new by way of mid, and its disk from before to after.
pub record Leaves {D : Type 0} (d : Ghosts D) (texts : TextsOf) (old mid new : State) (event : Event) (before after : D) : Type 0 where
  -- at every moment since it began
  pub within : IsTrue (d.tells_images before) → LeavesOnly d before after (MayFind old mid event)
  -- and each is an office still
  pub opens : IsTrue (d.tells_images before) → LeavesOnly d before after (IsOffice texts)
  -- at its end
  pub end : IsTrue (d.tells_images before) → (image : List ℕ) → d.may_leave after image → Finds new.records image ⊎ FindsAlso new.records new.doubt image

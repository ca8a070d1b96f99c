-- An office that was to be served, and wasn't opened: it ends as any other command does.
use Rattle.std.proofs.Common.{◌≡◌, ◌≢◌, ℕ, List, Option, Some, Result, Ok, Err, inl, inr, refl, sym, ap, subst}
use Rattle.ht_desk.specs.declared.fault.OpenFault.{OpenFault}
use Rattle.ht_desk.specs.Replaying.{TextsOf}
use Rattle.ht_doors.specs.Doors.{DoorState}
use Rattle.ht_outside.specs.Tells.{SinkState, SourceState}
use Rattle.ht_outside.specs.Texts.{TextsState}
use Rattle.ht_outside.specs.declared.disk.Disk.{Ghosts}
use Rattle.ht_program.specs.Attaching.{Disks}
use Rattle.ht_program.specs.Office.{NotOpenedOn, Runs, RunsOffice, outside}
use Rattle.ht_program.specs.Reading.{AsksFor, Reads}
use Rattle.ht_program.specs.Running.{Complains, Streams, streams}
use Rattle.ht_program.specs.Statuses.{fault_line, fault_status}
use Rattle.ht_program.specs.Words.{IsAlone, WordsOf, WorkOf}
use Rattle.ht_program.specs.Words.WorkOf.{checking}

not_checking : (w : WorkOf) → (IsAlone w → ⊥) → w ≢ checking
not_checking w waits is = waits (subst IsAlone (sym is) tt)

pub not_opened : {D : Type 0} (d : Ghosts D) (said : WordsOf) (texts : TextsOf) (before after : Disks D) (doors_before doors_after : DoorState) (told mid : TextsState) (unread : SourceState) (old new : SinkState) (complaints_before complaints_after : SinkState) (status : ℕ) (fault : OpenFault)
    → (IsAlone said.work → ⊥) → (name : List ℕ) × (said.journal ≡ Some name) → Reads said.texts told.texts (Ok texts) → AsksFor said.texts told mid (Ok texts) → NotOpenedOn d texts before after fault × (doors_after ≡ doors_before) × (new ≡ old)
    → status ≡ fault_status fault → Complains complaints_before complaints_after (fault_line fault)
    → RunsOffice d said before after (outside told unread old complaints_before) (outside mid unread new complaints_after) status × (doors_after ≡ doors_before)
not_opened d said texts before after doors_before doors_after told mid unread old new complaints_before complaints_after status fault waits named reads asks ends status_is complains = (
  inl (record {
    texts = texts;
    reads = reads;
    asks = asks;
    end = Err fault;
    status_is = status_is;
    runs = inr (not_checking said.work waits, subst (λ (j : Option (List ℕ)). Runs d j said texts before after (streams unread old) (streams unread new) (Err fault)) (sym named.1) (ends.0, ap (streams unread) ends.2));
    complains = complains;
  }),
  ends.1,
)

-- What an opening answers, and what it leaves of the disk.
use Rattle.std.specs.Prelude.{◌≡◌, ◌≢◌, ◌⊎◌, ℕ, ◌≤◌, IsTrue, List, [], ◌∷◌, ◌++◌, length, Result, Ok, Err, None, IfOk, IfErr, IfSome, OnOk, nat_le, if◌then◌else◌}
use Rattle.ht_outside.specs.Causes.{Rose}
use Rattle.ht_outside.specs.Disks.{Both}
use Rattle.ht_outside.specs.Moments.{LeavesOnly}
use Rattle.ht_outside.specs.declared.disk.Disk.{Ghosts}
use Rattle.ht_journal.specs.Files.{contents, header}
use Rattle.ht_journal.specs.Keeping.{IsKept}
use Rattle.ht_journal.specs.Quiet.{IsQuiet}
use Rattle.ht_journal.specs.Rooms.{IsRoomy}
use Rattle.ht_journal.specs.declared.faults.JournalFault.{JournalFault}
use Rattle.ht_journal.specs.declared.faults.JournalFault.TheVariants.{Damaged, Store, Memory}
use Rattle.ht_journal.specs.declared.state.JournalState.{JournalState}

-- the file of a journal without bodies: the header and a closed gate
abbrev pub beginning : List ℕ
beginning = header ++ 0 ∷ []

abbrev pub IsBegun : List ℕ → List ℕ → Type 0
IsBegun file now = now ≡ beginning

-- the file that an opening leaves: a file of at most 9 bytes is begun anew, and another stays
abbrev pub opened : List ℕ → List ℕ
opened file = if nat_le (length file) 9 then beginning else file

abbrev pub IsOpened : List ℕ → List ℕ → Type 0
IsOpened file now = now ≡ opened file

-- the file is as before, or it had at most 9 bytes and still has no more
abbrev pub IsTornBeginning : List ℕ → List ℕ → Type 0
IsTornBeginning file now = (now ≡ file) ⊎ ((length file ≤ 9) × (length now ≤ 9))

-- Why an opening is refused, and what it leaves then. Damaged: the file is damaged there, and it is as before, with its
-- images. Store: a call of the disk failed. The file is as before, unless it was being begun. Memory: all is as before
abbrev pub IsRefused : {D : Type 0} → Ghosts D → D → D → JournalFault → Type 0
IsRefused d old new (Damaged at) = IfSome (d.gives old) (λ file. contents file ≡ Err at) × IsQuiet d old new × (d.faults new ≡ d.faults old)
IsRefused d old new Store = Rose (d.faults old) (d.faults new) × Both IsTornBeginning (d.gives old) (d.gives new)
IsRefused d old new Memory = IsQuiet d old new × (d.faults new ≡ d.faults old)

-- an opening with this limit took the disk from old to new, and answered this
pub record Opens {D : Type 0} (d : Ghosts D) (limit : ℕ) (old new : D) (answer : Result JournalState JournalFault) : Type 0 where
  -- it finds the bodies of the file
  pub found : IfOk answer (λ state. (bodies : List (List ℕ)) × IsKept d bodies state new × IfSome (d.gives old) (λ file. contents file ≡ Ok bodies))
  -- and nothing is in doubt
  pub fresh : IfOk answer (λ state. (state.doubt ≡ None) × (state.limit ≡ limit))
  pub written : OnOk answer (Both IsOpened (d.gives old) (d.gives new))
  pub refused : IfErr answer (IsRefused d old new)
  -- at every moment since it began, an image is one from before, or has the bodies that the file had
  pub any_moment : IsTrue (d.tells_images old) → LeavesOnly d old new (λ image. d.may_leave old image ⊎ IfSome (d.gives old) (λ file. contents image ≡ contents file))
  -- the file has the same bodies afterwards, or is damaged in the same place, also where it is refused
  pub same : Both (λ file now. contents now ≡ contents file) (d.gives old) (d.gives new)
  pub room : d.room new ≡ d.room old
  pub in_room : IsRoomy (d.room old) 9 → answer ≢ Err Store
  pub faults : d.faults old ≤ d.faults new
  pub still : OnOk answer (d.faults new ≡ d.faults old)
  pub tells : d.tells_images new ≡ d.tells_images old

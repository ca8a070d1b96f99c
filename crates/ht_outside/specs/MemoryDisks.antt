-- A disk in memory, of which a test says which calls fail and what a crash leaves.
use Rattle.std.specs.Prelude.{◌≡◌, ◌==◌, ℕ, zero, suc, ◌+◌, ◌||◌, ◌&&◌, Bool, true, false, List, [], ◌∷◌, ◌++◌, length, Option, None, Some, Result, MatchResult, ⊤, min, max, nat_le}
use Rattle.std.specs.List.{list_all, list_any}
use Rattle.ht_outside.specs.Causes.{next_count}
use Rattle.ht_outside.specs.CrashModel.{IsMarked, Unsynced, present}
use Rattle.ht_outside.specs.DiskHistory.{stand}
use Rattle.ht_outside.specs.Disks.{all_bytes}
use Rattle.ht_outside.specs.declared.disk_call.DiskCall.{DiskCall}
use Rattle.ht_outside.specs.declared.disk_call.DiskCall.TheVariants.{Write, Sync}

-- bytes: what the disk held when it was made. calls: the writes and syncs that were done since, in order. failing: the numbers
-- of the calls that fail, counted from 1. stopped: the number from which on each call fails. asked: how many calls were made
pub record ScriptedDisk : Type 0 where
  pub bytes : List ℕ
  pub calls : List DiskCall
  pub shown : ℕ
  pub failing : List ℕ
  pub stopped : Option ℕ
  pub asked : ℕ
  pub faults : ℕ

-- a disk of these bytes, as last synced
abbrev pub disk_of : List ℕ → List ℕ → ScriptedDisk
disk_of bytes failing = record { bytes = bytes; calls = []; shown = 0; failing = failing; stopped = None; asked = 0; faults = 0 }

abbrev pub stands : ScriptedDisk → Unsynced
stands disk = stand disk.bytes disk.calls

-- whether a call wrote bytes and nothing else
abbrev pub wrote_bytes : DiskCall → Bool
wrote_bytes (Write patch) = all_bytes patch.piece
wrote_bytes Sync = true

-- Whether what the disk held and what was written are bytes. Those of each disk of a program are, and a number in a definition may
-- be any
abbrev pub holds_bytes : List ℕ → List DiskCall → Bool
holds_bytes bytes calls = all_bytes bytes && list_all wrote_bytes calls

-- what a read gives
abbrev pub given_by : ScriptedDisk → List ℕ
given_by disk = present (stands disk)

-- a disk that stops at the earlier of two calls
abbrev pub earlier : Option ℕ → ℕ → ℕ
earlier None call = call
earlier (Some stopped) call = min stopped call

abbrev pub is_from : Option ℕ → ℕ → Bool
is_from None call = false
is_from (Some stopped) call = nat_le stopped call

-- whether the next call is to fail
abbrev pub is_to_fail : ScriptedDisk → Bool
is_to_fail disk = list_any (λ n. n == next_count disk.asked) disk.failing || is_from disk.stopped (next_count disk.asked)

-- the disk after a call that failed: only the two counts changed
abbrev pub failed_call : ScriptedDisk → ScriptedDisk
failed_call disk = record disk { asked = next_count disk.asked; faults = next_count disk.faults }

-- the disk after a call that was done, with this length shown and these calls on record
abbrev pub done_call : ScriptedDisk → ℕ → List DiskCall → ScriptedDisk
done_call disk shown calls = record disk { asked = next_count disk.asked; shown = shown; calls = calls }

-- a write was done, or it failed
abbrev pub IsWriteOf : {E : Type 0} → ScriptedDisk → ScriptedDisk → ℕ → List ℕ → Result ⊤ E → Type 0
IsWriteOf old new at piece result = MatchResult result
    (λ _. new ≡ done_call old (max old.shown (at + length piece)) (old.calls ++ Write (record { at = at; piece = piece }) ∷ []))
    (λ _. new ≡ failed_call old)

-- a sync was done, or it failed
abbrev pub IsSyncOf : {E : Type 0} → ScriptedDisk → ScriptedDisk → Result ⊤ E → Type 0
IsSyncOf old new result = MatchResult result
    (λ _. new ≡ done_call old old.shown (old.calls ++ Sync ∷ []))
    (λ _. new ≡ failed_call old)

-- what a crash leaves by each pick: the contents as last synced, what a read gives, or the contents as last synced in which
-- each byte that was written since, or that lies past the old end up to the present one, holds 1
abbrev pub IsPicked : ℕ → Unsynced → List ℕ → Type 0
IsPicked zero disk image = image ≡ disk.synced
IsPicked (suc zero) disk image = image ≡ present disk
IsPicked (suc (suc more)) disk image = IsMarked disk image

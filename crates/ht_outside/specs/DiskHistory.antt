-- How a disk in memory stands by its record of calls, and how it stood.
use Rattle.std.specs.Prelude.{ℕ, ◌≤◌, List, [], ◌∷◌, ◌++◌, length, take}
use Rattle.ht_outside.specs.CrashModel.{IsImage, Unsynced, present}
use Rattle.ht_outside.specs.declared.disk_call.DiskCall.{DiskCall}
use Rattle.ht_outside.specs.declared.disk_call.DiskCall.TheVariants.{Write, Sync}

abbrev pub after_call : Unsynced → DiskCall → Unsynced
after_call disk (Write patch) = record disk { patches = disk.patches ++ patch ∷ [] }
after_call disk Sync = record { synced = present disk; patches = [] }

abbrev pub after_calls : Unsynced → List DiskCall → Unsynced
after_calls disk [] = disk
after_calls disk (call ∷ calls) = after_calls (after_call disk call) calls

-- a disk that was synced with these bytes, after these calls
abbrev pub stand : List ℕ → List DiskCall → Unsynced
stand bytes calls = after_calls (record { synced = bytes; patches = [] }) calls

-- what a crash at some moment from the one after t calls on might have left
abbrev pub LeftSince : List ℕ → List DiskCall → ℕ → List ℕ → Type 0
LeftSince bytes calls t image = (k : ℕ) × (t ≤ k) × (k ≤ length calls) × IsImage (stand bytes (take k calls)) image

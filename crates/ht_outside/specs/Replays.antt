-- How an image is made from a record of calls.
use Rattle.std.specs.Prelude.{◌≡◌, ℕ, List, [], ◌∷◌, length, take, drop, replicate, nat_eq, if◌then◌else◌}
use Rattle.ht_outside.specs.CrashModel.{Unsynced, present}
use Rattle.ht_outside.specs.DiskHistory.{stand}
use Rattle.ht_outside.specs.Disks.{laid_over, written}
use Rattle.ht_outside.specs.Patches.{PatchOf}
use Rattle.ht_outside.specs.declared.disk_call.DiskCall.{DiskCall}
use Rattle.ht_outside.specs.declared.disk_call.DiskCall.TheVariants.{Write, Sync}

-- the writes among these calls
abbrev pub patches_of : List DiskCall → List PatchOf
patches_of [] = []
patches_of (Write patch ∷ calls) = patch ∷ patches_of calls
patches_of (Sync ∷ calls) = patches_of calls

-- a file after the writes among these calls
abbrev pub replayed : List ℕ → List DiskCall → List ℕ
replayed file [] = file
replayed file (Write patch ∷ calls) = replayed (written patch.at patch.piece file) calls
replayed file (Sync ∷ calls) = replayed file calls

-- a file in which 1 stands wherever this write wrote, and between the file's end and the write
abbrev pub mark_over : PatchOf → List ℕ → List ℕ
mark_over patch file = laid_over 1 patch.at (replicate (length patch.piece) 1) file

abbrev pub marked_by : List ℕ → List DiskCall → List ℕ
marked_by file [] = file
marked_by file (Write patch ∷ calls) = marked_by (mark_over patch file) calls
marked_by file (Sync ∷ calls) = marked_by file calls

abbrev pub marked : List ℕ → List PatchOf → List ℕ
marked file [] = file
marked file (patch ∷ patches) = marked (mark_over patch file) patches

-- what is synced is what the calls up to this place gave, and the writes since are those behind it
abbrev pub IsCutAt : List ℕ → List DiskCall → ℕ → Type 0
IsCutAt bytes calls place =
    stand bytes calls ≡ record { synced = replayed bytes (take place calls); patches = patches_of (drop place calls) }

-- the image that a pick makes
abbrev pub picked : ℕ → Unsynced → List ℕ
picked pick disk = if nat_eq pick 0 then disk.synced else (if nat_eq pick 1 then present disk else marked disk.synced disk.patches)

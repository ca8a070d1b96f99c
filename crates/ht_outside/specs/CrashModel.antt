-- What a crash may leave of a file that was written since its last sync.
use Rattle.std.specs.Prelude.{◌≡◌, ◌⊎◌, ℕ, ◌+◌, ◌<◌, ◌≤◌, List, [], ◌∷◌, length, slice_index, ⊤}
use Rattle.ht_outside.specs.Disks.{AreBytes, written}
use Rattle.ht_outside.specs.Patches.{PatchOf}

-- the contents as last synced, and the writes since, in order
pub record Unsynced : Type 0 where
  pub synced : List ℕ
  pub patches : List PatchOf

-- a file after these writes
abbrev pub patched : List ℕ → List PatchOf → List ℕ
patched file [] = file
patched file (patch ∷ patches) = patched (written patch.at patch.piece file) patches

-- what a read gives
abbrev pub present : Unsynced → List ℕ
present disk = patched disk.synced disk.patches

-- this place lies in no range that was written, or in one
abbrev pub IsUntouched : List PatchOf → ℕ → Type 0
IsUntouched [] place = ⊤
IsUntouched (patch ∷ patches) place = ((place < patch.at) ⊎ (patch.at + length patch.piece ≤ place)) × IsUntouched patches place

abbrev pub IsTouched : List PatchOf → ℕ → Type 0
IsTouched [] place = ⊥
IsTouched (patch ∷ patches) place = ((patch.at ≤ place) × (place < patch.at + length patch.piece)) ⊎ IsTouched patches place

-- A crash may leave this: bytes whose end is anywhere from the old end to the present one, and of which those below the old
-- end and outside the written ranges are those that were synced. Any other may be any byte
pub record IsImage (disk : Unsynced) (image : List ℕ) : Type 0 where
  pub no_shorter : length disk.synced ≤ length image
  pub no_longer : length image ≤ length (present disk)
  pub others : (place : ℕ) → place < length disk.synced → IsUntouched disk.patches place → slice_index image place ≡ slice_index disk.synced place
  pub bytes : AreBytes image

-- the image up to the present end in which each of those other bytes is 1
pub record IsMarked (disk : Unsynced) (image : List ℕ) : Type 0 where
  pub ends : length image ≡ length (present disk)
  pub others : (place : ℕ) → place < length disk.synced → IsUntouched disk.patches place → slice_index image place ≡ slice_index disk.synced place
  pub ones : (place : ℕ) → place < length image → IsTouched disk.patches place ⊎ (length disk.synced ≤ place) → slice_index image place ≡ 1

-- Calls of a disk that change nothing of its file.
use Rattle.std.specs.Prelude.{◌≡◌, IsTrue, List, ℕ}
use Rattle.ht_outside.specs.Moments.{LeavesOnly}
use Rattle.ht_outside.specs.declared.disk.Disk.{Ghosts}

-- the file and the room stay, and each image since the calls began is one of those before
pub record IsQuiet {D : Type 0} (d : Ghosts D) (old new : D) : Type 0 where
  pub file : d.gives new ≡ d.gives old
  pub same_room : d.room new ≡ d.room old
  pub tells : d.tells_images new ≡ d.tells_images old
  pub crash : IsTrue (d.tells_images old) → (image : List ℕ) → d.may_leave new image → d.may_leave old image
  pub any_moment : IsTrue (d.tells_images old) → LeavesOnly d old new (d.may_leave old)

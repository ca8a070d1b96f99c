-- What a crash leaves at any moment of a run of calls.
use Rattle.std.specs.Prelude.{◌⊎◌, ℕ, ◌≤◌, List}
use Rattle.ht_outside.specs.declared.disk.Disk.{Ghosts}

-- a crash at any moment since the old state leaves a file that has P
pub record LeavesOnly {D : Type 0} (d : Ghosts D) (old new : D) (P : List ℕ → Type 0) : Type 0 where
  pub later : d.moment old ≤ d.moment new
  pub each : (image : List ℕ) → d.left_since new (d.moment old) image → P image
  -- for a run that began earlier
  pub before : (t : ℕ) (image : List ℕ) → t ≤ d.moment old → d.left_since new t image → d.left_since old t image ⊎ P image

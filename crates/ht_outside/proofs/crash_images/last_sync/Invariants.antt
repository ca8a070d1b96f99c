use Rattle.std.proofs.Common.{ℕ, List, length, ◌≤◌}
use Rattle.ht_outside.proofs.CutLaws.{Reaches}
use Rattle.ht_outside.proofs.crash_images.last_sync.Given as goal

abbrev pub invariant-loop-place : goal.invariant-loop-place
invariant-loop-place l = record { within : l.place ≤ length l.calls; reaches : (bytes : List ℕ) → Reaches bytes l.calls l.place }

abbrev pub decreases-loop-place : goal.decreases-loop-place
decreases-loop-place l = l.place

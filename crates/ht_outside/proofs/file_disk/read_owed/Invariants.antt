use Rattle.std.proofs.Common.{◌-◌, ◌≤◌, length}
use Rattle.ht_outside.proofs.file_disk.read_owed.Given as goal

abbrev pub invariant-loop-given : goal.invariant-loop-given
invariant-loop-given l = l.given ≤ length l.into

abbrev pub decreases-loop-given : goal.decreases-loop-given
decreases-loop-given l = l.owed - l.given

use Rattle.std.proofs.Common.{◌+◌, length}
use Rattle.ht_people.proofs.Merging.{Merges}
use Rattle.ht_people.proofs.sets.merge.Given as goal

abbrev pub invariant-loop-person : goal.invariant-loop-person
invariant-loop-person l = Merges l.keep l.fn.first l.fn.second l.first l.second l.merged

abbrev pub decreases-loop-person : goal.decreases-loop-person
decreases-loop-person l = length l.first + length l.second

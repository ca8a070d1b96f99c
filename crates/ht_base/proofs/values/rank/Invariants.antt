use Rattle.std.proofs.Common.{◌≡◌, ◌+◌, drop}
use Rattle.ht_base.specs.Values.{rank}
use Rattle.ht_base.proofs.values.rank.Given as goal

abbrev pub invariant-loop-other : goal.invariant-loop-other
invariant-loop-other l = (rank l.name l.items ≡ rank l.name (drop l.other-index l.items) + l.rank) × (l.rank ≡ l.other-index)

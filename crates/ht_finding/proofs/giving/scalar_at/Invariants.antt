use Rattle.std.proofs.Common.{◌≡◌, drop}
use Rattle.ht_finding.specs.Giving.{scalar_at}
use Rattle.ht_finding.proofs.giving.scalar_at.Given as goal

abbrev pub invariant-loop-part : goal.invariant-loop-part
invariant-loop-part l = scalar_at l.name l.part-items ≡ scalar_at l.name (drop l.part-index l.part-items)

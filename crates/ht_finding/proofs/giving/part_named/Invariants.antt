use Rattle.std.proofs.Common.{◌≡◌, drop}
use Rattle.ht_finding.specs.Giving.{part_named}
use Rattle.ht_finding.proofs.giving.part_named.Given as goal

abbrev pub invariant-loop-part : goal.invariant-loop-part
invariant-loop-part l = part_named l.name l.parts ≡ part_named l.name (drop l.part-index l.parts)

use Rattle.std.proofs.Common.{◌≡◌, take}
use Rattle.ht_finding.specs.Giving.{values_given}
use Rattle.ht_finding.proofs.giving.values_given.Given as goal

abbrev pub invariant-loop-name : goal.invariant-loop-name
invariant-loop-name l = l.values ≡ values_given l.people l.parts (take l.name-index l.name-items)

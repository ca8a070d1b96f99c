use Rattle.std.proofs.Common.{◌≡◌, drop}
use Rattle.ht_finding.specs.Giving.{undeclared}
use Rattle.ht_finding.proofs.giving.undeclared.Given as goal

abbrev pub invariant-loop-name : goal.invariant-loop-name
invariant-loop-name l = undeclared l.parts l.name-items ≡ undeclared l.parts (drop l.name-index l.name-items)

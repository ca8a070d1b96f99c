use Rattle.std.proofs.Common.{◌≡◌, drop}
use Rattle.ht_owner.specs.Faults.{unknown_person}
use Rattle.ht_owner.proofs.faults.unknown.Given as goal

abbrev pub invariant-loop-name : goal.invariant-loop-name
invariant-loop-name l = unknown_person l.people l.names ≡ unknown_person l.people (drop l.name-index l.names)

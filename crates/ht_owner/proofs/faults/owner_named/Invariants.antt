use Rattle.std.proofs.Common.{◌≡◌, drop}
use Rattle.ht_owner.specs.Faults.{owner_named}
use Rattle.ht_owner.proofs.faults.owner_named.Given as goal

abbrev pub invariant-loop-name : goal.invariant-loop-name
invariant-loop-name l = owner_named l.people (l.row).owner l.names ≡ owner_named l.people (l.row).owner (drop l.name-index l.names)

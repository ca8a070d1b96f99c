use Rattle.std.proofs.Common.{◌≡◌, drop}
use Rattle.ht_owner.specs.Faults.{excluded}
use Rattle.ht_owner.proofs.faults.excluded.Given as goal

abbrev pub invariant-loop-name : goal.invariant-loop-name
invariant-loop-name l = excluded l.people l.persons l.names ≡ excluded l.people l.persons (drop l.name-index l.names)

use Rattle.std.proofs.Common.{◌≡◌, drop}
use Rattle.ht_owner.specs.Faults.{first_of}
use Rattle.ht_owner.proofs.faults.first.Given as goal

abbrev pub invariant-loop-fault : goal.invariant-loop-fault
invariant-loop-fault l = first_of l.faults ≡ first_of (drop l.fault-index l.faults)

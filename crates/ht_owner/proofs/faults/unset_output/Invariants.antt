use Rattle.std.proofs.Common.{◌≡◌, drop}
use Rattle.ht_owner.specs.Faults.{first_unset}
use Rattle.ht_owner.proofs.faults.unset_output.Given as goal

abbrev pub invariant-loop-part : goal.invariant-loop-part
invariant-loop-part l = first_unset l.output l.parts ≡ first_unset l.output (drop l.part-index l.parts)

use Rattle.std.proofs.Common.{◌≡◌, drop}
use Rattle.ht_value.specs.Environment.{values_fit}
use Rattle.ht_value.proofs.environment.values_fit.Given as goal

abbrev pub invariant-loop-part : goal.invariant-loop-part
invariant-loop-part l = values_fit l.kinds l.side l.part-items ≡ values_fit l.kinds l.side (drop l.part-index l.part-items)

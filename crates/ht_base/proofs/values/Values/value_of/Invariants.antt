use Rattle.std.proofs.Common.{◌≡◌, drop}
use Rattle.ht_base.specs.Values.{value_of}
use Rattle.ht_base.proofs.values.Values.value_of.Given as goal

abbrev pub invariant-loop-other : goal.invariant-loop-other
invariant-loop-other l = value_of l.name l.other-items ≡ value_of l.name (drop l.other-index l.other-items)

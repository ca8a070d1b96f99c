use Rattle.std.proofs.Common.{◌≡◌, drop}
use Rattle.ht_base.specs.Values.{value_of}
use Rattle.ht_value.proofs.environment.value_at.Given as goal

abbrev pub invariant-loop-part : goal.invariant-loop-part
invariant-loop-part l = value_of l.name l.part-items ≡ value_of l.name (drop l.part-index l.part-items)

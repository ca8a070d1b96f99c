use Rattle.std.proofs.Common.{drop}
use Rattle.std.specs.Prelude.{option_map}
use Rattle.ht_aggregate.specs.Given.{texts}
use Rattle.ht_aggregate.proofs.Sought.{IsSought}
use Rattle.ht_aggregate.proofs.frequencies.only_one.Given as goal

abbrev pub invariant-loop-value : goal.invariant-loop-value
invariant-loop-value l = IsSought (texts l.values) l.count (option_map (λ t. t.now) l.found) (texts (drop l.value-index l.values))

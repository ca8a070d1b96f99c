use Rattle.std.proofs.Common.{◌≡◌, drop, fold, length, map, min}
use Rattle.ht_aggregate.specs.Frequencies.{times}
use Rattle.ht_aggregate.specs.Searching.{counts}
use Rattle.ht_aggregate.specs.Given.{texts}
use Rattle.ht_aggregate.proofs.frequencies.least_count.Given as goal

abbrev pub invariant-loop-value : goal.invariant-loop-value
invariant-loop-value l =
    fold min l.least (map (λ text. times text (texts l.values)) (texts (drop l.value-index l.values)))
    ≡ fold min (length l.values) (counts (texts l.values))

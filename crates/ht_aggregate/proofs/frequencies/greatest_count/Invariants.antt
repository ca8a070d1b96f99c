use Rattle.std.proofs.Common.{◌≡◌, drop, fold, map, max}
use Rattle.ht_aggregate.specs.Frequencies.{times}
use Rattle.ht_aggregate.specs.Searching.{counts}
use Rattle.ht_aggregate.specs.Given.{texts}
use Rattle.ht_aggregate.proofs.frequencies.greatest_count.Given as goal

abbrev pub invariant-loop-value : goal.invariant-loop-value
invariant-loop-value l =
    fold max l.greatest (map (λ text. times text (texts l.values)) (texts (drop l.value-index l.values)))
    ≡ fold max 0 (counts (texts l.values))

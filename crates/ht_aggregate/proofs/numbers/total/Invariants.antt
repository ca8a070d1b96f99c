use Rattle.std.proofs.Common.{◌≡◌, ◌-◌, ◌*◌, ◌^◌, drop, pos, neg_ℤ, ◌+ℤ◌, ◌≤ℤ◌}
use Rattle.ht_aggregate.specs.Given.{numbers}
use Rattle.ht_aggregate.specs.Numbers.{total}
use Rattle.ht_aggregate.proofs.numbers.total.Given as goal

abbrev pub invariant-loop-value : goal.invariant-loop-value
invariant-loop-value l =
    (l.total +ℤ total (numbers (drop l.value-index l.values)) ≡ total (numbers l.values))
    × (neg_ℤ (pos (2 ^ 63 * l.value-index)) ≤ℤ l.total)
    × (l.total ≤ℤ pos ((2 ^ 63 - 1) * l.value-index))

use Rattle.std.proofs.Common.{arith, ap}
use Rattle.std.proofs.lemmas.Int.{ints}
use Rattle.ht_aggregate.proofs.Summed.{added, total_more}
use Rattle.ht_aggregate.proofs.numbers.total.Goals as goal
use Rattle.ht_aggregate.proofs.numbers.total.Goals.{in-Some, in_default}

pub loop-value-preserved : goal.loop-value-preserved
loop-value-preserved c =
    let step = total_more c.args.values.now c.loop-value.value-index c.value-item.result _ c.loop-value-test.true c.value-item.is c.number_in.ensures in
    elim c.match-number_in.branch [
      | in-Some w ↦ let n = ap added w.in-Some.is in (omega (arith, ints), omega (arith, ints), omega (arith, ints))
      | in_default w ↦ let n = ap added w.in_default.is in (omega (arith, ints), omega (arith, ints), omega (arith, ints))
    ]

use Rattle.std.proofs.Common.{arith}
use Rattle.ht_base.proofs.Digits.{next}
use Rattle.ht_base.proofs.numbers.value_of.Goals as goal

pub overflow_mul-value : goal.overflow_mul-value
overflow_mul-value c =
    let n = next c.args.digits.now c.loop-digit.digit-index c.requires c.loop-digit-test.true in
    let so_far = c.loop-digit.invariant in
    omega (arith, n.small)

pub overflow_add-value : goal.overflow_add-value
overflow_add-value c =
    let n = next c.args.digits.now c.loop-digit.digit-index c.requires c.loop-digit-test.true in
    let so_far = c.loop-digit.invariant in
    omega (arith, n.small)

pub loop-digit-preserved : goal.loop-digit-preserved
loop-digit-preserved c =
    let n = next c.args.digits.now c.loop-digit.digit-index c.requires c.loop-digit-test.true in
    let so_far = c.loop-digit.invariant in
    omega (arith, n.value)

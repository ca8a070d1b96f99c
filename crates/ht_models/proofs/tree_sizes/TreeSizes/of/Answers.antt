use Rattle.std.proofs.Common.{arith}
use Rattle.ht_models.proofs.TreeCounts.{all_counted, first_round, next_round}
use Rattle.ht_models.proofs.tree_sizes.TreeSizes.of.Goals as goal

pub loop-init : goal.loop-init
loop-init c = first_round c.args.graph.now _ _ c.count.result c.in_ok-level.ensures c.count.ensures (c.in_ok-sizes.ensures.items_if_clones_equal (λ y same. same))

pub loop-preserved : goal.loop-preserved
loop-preserved c = next_round c.args.graph.now c.loop.counter c.loop.level.items c.loop.sizes.items _ _ c.loop.invariant (rw (← c.deref.ensures.value, ← c.deref-in-loop.ensures.value) c.in_ok-sizes-2.ensures) (rw (← c.deref-in-loop-2.ensures.value) c.in_ok-level-2.ensures)

pub returns : goal.returns
returns c = all_counted c.args.graph.now c.loop.counter c.loop.level.items c.loop.sizes.items (omega (arith, c.loop-test.false, c.loop.auto.counter-end)) c.loop.invariant

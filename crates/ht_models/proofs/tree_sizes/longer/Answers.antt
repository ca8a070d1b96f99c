use Rattle.std.proofs.Common.{refl}
use Rattle.ht_models.proofs.TreeCounts.{counted_more}
use Rattle.ht_models.proofs.tree_sizes.longer.Goals as goal

pub loop-place-preserved : goal.loop-place-preserved
loop-place-preserved c = counted_more _ _ _ _ _ c.loop-place.invariant c.in_ok-push.ensures.items (rw (c.sum_of.ensures, c.next.ensures) refl)

use Rattle.std.proofs.Common.{refl}
use Rattle.ht_models.proofs.TreeCounts.{counted_more}
use Rattle.ht_models.proofs.tree_sizes.subs.Goals as goal

pub loop-place-preserved : goal.loop-place-preserved
loop-place-preserved c = counted_more _ _ _ _ _ c.loop-place.invariant c.in_ok-push.ensures.items (rw (c.up_to_enough.ensures, c.next.ensures) refl)

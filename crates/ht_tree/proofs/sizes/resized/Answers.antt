use Rattle.std.proofs.Common.{arith}
use Rattle.ht_tree.proofs.sizes.resized.Goals as goal
use Rattle.ht_tree.proofs.sizes.resized.Goals.{in-Some, in-None}

pub overflow_add-result : goal.overflow_add-result
overflow_add-result c =
    let small = c.top_size-2.ensures.small in
    let total = c.requires.total in
    elim c.match-before.branch [ in-Some w ↦ omega arith | in-None w ↦ omega arith ]

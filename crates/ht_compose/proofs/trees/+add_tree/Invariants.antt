use Rattle.std.proofs.Common.{◌-◌, length, take}
use Rattle.ht_compose.proofs.InTrees.{AddsSome}
use Rattle.ht_compose.proofs.trees.+add_tree.Given as goal
use Rattle.ht_tree.specs.Plans.{planned}

-- a sub task has a greater number
abbrev pub decreases-add_tree : goal.decreases-add_tree
decreases-add_tree l = length (planned l.tables.now.tables l.plan.now).rows - l.task.0

-- the trees of the sub tasks before have come
abbrev pub invariant-loop-sub : goal.invariant-loop-sub
invariant-loop-sub l = AddsSome (planned l.tables.tables l.plan).rows l.fn.task.0 l.fn.tasks.items l.tasks.items (take l.sub-index l.sub-items)

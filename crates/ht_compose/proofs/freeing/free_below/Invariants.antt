use Rattle.std.proofs.Common.{length}
use Rattle.ht_compose.proofs.Freed.{FreesBut}
use Rattle.ht_compose.proofs.freeing.free_below.Given as goal

abbrev pub invariant-loop-id : goal.invariant-loop-id
invariant-loop-id l = FreesBut l.tables.tables l.fn.plan l.plan l.task.0 l.left.items l.freed.items

abbrev pub decreases-loop-id : goal.decreases-loop-id
decreases-loop-id l = length l.left.items

use Rattle.std.proofs.Common.{◌≡◌, length}
use Rattle.std.specs.Vec.Iter.{into_iter_items, into_iter_len}
use Rattle.ht_compose.specs.Running.{item_of}
use Rattle.ht_compose.proofs.Going.{IsGoing}
use Rattle.ht_compose.proofs.Stepping.{weight}
use Rattle.ht_compose.proofs.running.+run.Given as goal
use Rattle.ht_tree.specs.Plans.{planned}

abbrev pub decreases-run : goal.decreases-run
decreases-run l = weight (planned l.tables.now.tables l.plan.now) (item_of l.item)

abbrev pub invariant-loop-put : goal.invariant-loop-put
invariant-loop-put l = record {
  next : (goal.iterator-loop-put).can_next l.put-iterator;
  ends : (goal.iterator-loop-put).is_finite l.put-iterator;
  left : into_iter_len l.put-iterator ≡ length (into_iter_items l.put-iterator);
  going : IsGoing l.tables.tables l.fn.plan l.plan l.at (item_of l.fn.item) (into_iter_items l.put-iterator);
}

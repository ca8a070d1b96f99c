use Rattle.std.proofs.Common.{length}
use Rattle.ht_compose.specs.Reaching.{reached_but}
use Rattle.ht_compose.proofs.Spread.{AreLeft}
use Rattle.ht_compose.proofs.spreading.spread.Given as goal
use Rattle.ht_tree.specs.Plans.{Goes, planned}
use Rattle.ht_tree.specs.Tables.{with_rows}

-- all are done but those that are left
abbrev pub invariant-loop-id : goal.invariant-loop-id
invariant-loop-id l =
    let u = planned l.tables.tables l.fn.plan in
    record {
      goes : Goes l.tables.tables l.fn.plan l.plan u (with_rows u (reached_but l.left.items l.reach u.rows l.task.0));
      left : AreLeft u l.left.items;
    }

abbrev pub decreases-loop-id : goal.decreases-loop-id
decreases-loop-id l = length l.left.items

use Rattle.std.proofs.Common.{◌≡◌}
use Rattle.ht_compose.specs.Finding.{rows_of}
use Rattle.ht_compose.specs.Finishes.{all_ended}
use Rattle.ht_compose.proofs.finishing.all_ended.Given as goal
use Rattle.ht_tree.specs.Plans.{planned}

abbrev pub invariant-loop-entry : goal.invariant-loop-entry
invariant-loop-entry l = l.all ≡ all_ended l.task.0 l.entry (rows_of (planned l.tables.tables l.plan) l.subs)

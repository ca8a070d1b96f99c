use Rattle.std.proofs.Common.{◌≡◌, map}
use Rattle.ht_compose.specs.Finding.{rows_of}
use Rattle.ht_compose.specs.Finishes.{completed}
use Rattle.ht_compose.proofs.finishing.completed.Given as goal
use Rattle.ht_tree.specs.Plans.{planned}

abbrev pub invariant-loop-entry : goal.invariant-loop-entry
invariant-loop-entry l = l.found.items ≡ map (λ s. s.task) (completed l.task.0 l.entry (rows_of (planned l.tables.tables l.plan) l.subs))

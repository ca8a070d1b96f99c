use Rattle.std.proofs.Common.{map, take}
use Rattle.ht_compose.specs.Items.Item.{Check}
use Rattle.ht_compose.specs.Running.{Runs}
use Rattle.ht_compose.proofs.freeing.check_all.Given as goal

abbrev pub invariant-loop-task : goal.invariant-loop-task
invariant-loop-task l = Runs l.tables.tables l.fn.plan l.plan l.at (map (λ id. Check id.0) (take l.task-index l.tasks))

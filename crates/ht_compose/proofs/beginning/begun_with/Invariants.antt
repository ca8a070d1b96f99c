use Rattle.std.proofs.Common.{◌≡◌, map}
use Rattle.ht_compose.specs.Items.{makes}
use Rattle.ht_compose.specs.Running.{item_of}
use Rattle.ht_compose.proofs.beginning.begun_with.Given as goal

abbrev pub invariant-loop-entry : goal.invariant-loop-entry
invariant-loop-entry l = map item_of l.items.items ≡ makes l.row.task.0 l.entry

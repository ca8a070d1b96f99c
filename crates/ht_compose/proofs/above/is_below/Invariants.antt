use Rattle.std.proofs.Common.{◌≡◌, ◌-◌}
use Rattle.ht_compose.specs.Families.{is_above, leads_to}
use Rattle.ht_tree.specs.Plans.{planned}
use Rattle.ht_compose.proofs.above.is_below.Given as goal

abbrev pub invariant-loop-step : goal.invariant-loop-step
invariant-loop-step l =
    leads_to (l._step-end - l._step) (planned l.tables.tables l.plan).rows l.task.0 l.parent ≡ is_above (planned l.tables.tables l.plan).rows l.task.0 l.row

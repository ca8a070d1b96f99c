use Rattle.std.proofs.Common.{◌≡◌, drop}
use Rattle.ht_rules.proofs.changes.next.Given as goal
use Rattle.ht_rules.specs.Changes.{change_from}

abbrev pub invariant-loop-step : goal.invariant-loop-step
invariant-loop-step l = change_from l.state (drop l.step-index l.step-items) ≡ change_from l.state l.step-items

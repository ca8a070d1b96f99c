use Rattle.std.proofs.Common.{◌≡◌, drop}
use Rattle.std.specs.List.{list_any}
use Rattle.ht_models.specs.Repeats.{repeats_escalation}
use Rattle.ht_models.proofs.repeats.repeats_escalation.Given as goal

abbrev pub invariant-loop-deadline : goal.invariant-loop-deadline
invariant-loop-deadline l = list_any repeats_escalation l.deadlines ≡ list_any repeats_escalation (drop l.deadline-index l.deadlines)

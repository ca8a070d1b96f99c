use Rattle.std.proofs.Common.{◌≡◌, List, Option, drop, map, IfSome}
use Rattle.std.specs.Prelude.{filter_map, slice_get}
use Rattle.ht_escalate.specs.Escalating.{triggered}
use Rattle.ht_escalate.specs.Seeing.{env_of, sight_of}
use Rattle.ht_escalate.proofs.reassigning.new_owners.Given as goal
use Rattle.ht_expr.specs.Assignments.{Assignment}
use Rattle.ht_models.specs.declared.model.Escalation.{Escalation}
use Rattle.ht_models.specs.Shown as shown

-- none before was triggered
abbrev pub invariant-loop-escalation : goal.invariant-loop-escalation
invariant-loop-escalation l =
    let s = sight_of l.seen in
    let first : List Escalation → Option Assignment = λ es. slice_get (filter_map (λ e. e.reassign) (triggered s (map shown.escalation_of es))) 0 in
    record {
      first : first (drop l.escalation-index l.deadline.escalations.items) ≡ first l.deadline.escalations.items;
      view : IfSome l.view (λ e. e ≡ env_of l.seen);
    }

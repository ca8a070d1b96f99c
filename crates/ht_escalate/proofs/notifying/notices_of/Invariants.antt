use Rattle.std.proofs.Common.{◌≡◌, ◌++◌, List, drop, map, IfSome}
use Rattle.std.specs.Prelude.{filter_map}
use Rattle.ht_escalate.specs.Escalating.{notice_of, triggered}
use Rattle.ht_escalate.specs.Seeing.{env_of, people_of, row_of, sight_of}
use Rattle.ht_escalate.proofs.notifying.notices_of.Given as goal
use Rattle.ht_models.specs.declared.model.Escalation.{Escalation}
use Rattle.ht_models.specs.Shown as shown
use Rattle.ht_tree.specs.declared.notice.Notice.{Notice}

-- what was found, with that of the rest
abbrev pub invariant-loop-escalation : goal.invariant-loop-escalation
invariant-loop-escalation l =
    let s = sight_of l.seen in
    let of : List Escalation → List Notice = λ es. filter_map (notice_of (people_of l.seen) s (row_of l.seen).task l.deadline.name l.at) (triggered s (map shown.escalation_of es)) in
    record {
      notices : l.notices.items ++ of (drop l.escalation-index l.deadline.escalations.items) ≡ of l.deadline.escalations.items;
      view : IfSome l.view (λ e. e ≡ env_of l.seen);
    }

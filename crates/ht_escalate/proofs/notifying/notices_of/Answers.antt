use Rattle.std.proofs.Common.{◌≡◌, ◌∙◌, append-nil, ap, sym}
use Rattle.ht_escalate.specs.Escalating.{notice_of}
use Rattle.ht_escalate.specs.Seeing.{people_of, row_of, sight_of}
use Rattle.ht_escalate.proofs.Telling.{told_more}
use Rattle.ht_escalate.proofs.notifying.notices_of.Goals as goal
use Rattle.ht_escalate.proofs.notifying.notices_of.Goals.{in-Some+in_ok-push, in_default}

pub loop-escalation-preserved : goal.loop-escalation-preserved
loop-escalation-preserved c =
    let seen = c.args.seen.now in
    let deadline = c.args.deadline.now in
    let es = deadline.escalations.items in
    let same : c.deref-escalation-items.result.now ≡ es = c.deref-escalation-items.ensures.value in
    let more = told_more (notice_of (people_of seen) (sight_of seen) (row_of seen).task deadline.name c.args.at) (sight_of seen) es c.loop-escalation.escalation-index c.escalation-item.result c.loop-escalation.notices.items c.match-branch-2.notices.items _ (rw (← same) c.loop-escalation-test.true) (rw (← same) c.escalation-item.is) c.loop-escalation.invariant.notices in
    record {
      notices = elim c.match-branch-2.branch [
        | in-Some+in_ok-push w ↦ more _ (sym w.in-Some.is ∙ c.in_ok-notice.ensures.notice) (ap (λ v. v.items) w.notices-is ∙ w.in_ok-push.ensures.items)
        | in_default w ↦ more _ (sym w.in_default.is ∙ c.in_ok-notice.ensures.notice) (ap (λ v. v.items) w.notices-is ∙ sym (append-nil _))
      ];
      view = c.in_ok-notice.ensures.view;
    }

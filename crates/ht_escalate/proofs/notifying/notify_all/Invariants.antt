use Rattle.std.proofs.Common.{◌≡◌}
use Rattle.std.specs.Vec.Iter.{into_iter_items}
use Rattle.ht_escalate.specs.Seeing.{telling}
use Rattle.ht_escalate.proofs.notifying.notify_all.Given as goal

abbrev pub invariant-loop-notice : goal.invariant-loop-notice
invariant-loop-notice l = record {
  next : (goal.iterator-loop-notice).can_next l.notice-iterator;
  ends : (goal.iterator-loop-notice).is_finite l.notice-iterator;
  told : telling l.plan (into_iter_items l.notice-iterator) ≡ telling (l.fn).plan (l.fn).notices.items;
}

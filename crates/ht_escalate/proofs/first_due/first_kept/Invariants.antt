use Rattle.ht_escalate.proofs.Firsts.{IsWalked, left}
use Rattle.ht_escalate.proofs.first_due.first_kept.Given as goal

abbrev pub invariant-loop-next : goal.invariant-loop-next
invariant-loop-next l = IsWalked l.plan (l.queue).dues l.next

abbrev pub decreases-loop-next : goal.decreases-loop-next
decreases-loop-next l = left l.next (l.queue).dues

use Rattle.ht_workers.proofs.working.work.Goals.{in-Some, in-None}
use Rattle.ht_workers.proofs.working.work.Goals as goal

pub returns-clause-ends : goal.returns-clause-ends
returns-clause-ends g c = elim c.match-share.branch [
  | in-Some w ↦ rw (w.pass-is, w.door-is, w.end-is, w.in-Some.is) w.work_on-end.ensures.ends
  | in-None w ↦ rw (w.pass-is, w.door-is, w.end-is, w.in-None.is) w.go_on-end.ensures.ends
]

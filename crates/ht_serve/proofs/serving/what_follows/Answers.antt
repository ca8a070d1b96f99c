use Rattle.ht_serve.proofs.Exchanging.{follows}
use Rattle.ht_serve.proofs.serving.what_follows.Goals as goal
use Rattle.ht_serve.proofs.serving.what_follows.Goals.{in-Request, in-End, in-Refused, in-ReadFault, in-Memory}

pub returns-clause-follows : goal.returns-clause-follows
returns-clause-follows g c = elim c.match-next_request.branch [
  | in-Request w ↦ follows _ _ _ _ _ _ w.in-Request.ensures.reads w.in-Request.ensures.cause.later w.in-Request.ensures.cause.failed w.result-is
  | in-End w ↦ follows _ _ _ _ _ _ w.in-End.ensures.reads w.in-End.ensures.cause.later w.in-End.ensures.cause.failed w.result-is
  | in-Refused w ↦ follows _ _ _ _ _ _ w.in-Refused.ensures.reads w.in-Refused.ensures.cause.later w.in-Refused.ensures.cause.failed w.result-is
  | in-ReadFault w ↦ follows _ _ _ _ _ _ w.in-ReadFault.ensures.reads w.in-ReadFault.ensures.cause.later w.in-ReadFault.ensures.cause.failed w.result-is
  | in-Memory w ↦ follows _ _ _ _ _ _ w.in-Memory.ensures.reads w.in-Memory.ensures.cause.later w.in-Memory.ensures.cause.failed w.result-is
]

use Rattle.ht_serve.proofs.Exchanging.{answers_event, answers_none, answers_refused}
use Rattle.ht_serve.proofs.answering.answer.Goals as goal

pub returns-in_err-reserve-clause-answers : goal.returns-in_err-reserve-clause-answers
returns-in_err-reserve-clause-answers g c = answers_none _ _ _ _ _ (g.met.Q.Caller.made_none _) c.from_residual.ensures.0

pub returns-in-Ok-clause-answers : goal.returns-in-Ok-clause-answers
returns-in-Ok-clause-answers g c = answers_event _ _ _ c.in-Ok.event _ _ c.in-Ok.ensures.due c.call_into.ensures.answers

pub returns-in-Err-clause-answers : goal.returns-in-Err-clause-answers
returns-in-Err-clause-answers g c = answers_refused _ _ _ _ _ c.in-Err.why c.into.result (g.met.Q.Caller.made_none _) c.in-Err.ensures.due c.into.ensures c.refuse_into.ensures.status c.refuse_into.ensures.text

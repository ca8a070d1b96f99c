use Rattle.ht_serve.proofs.Exchanging.{answers_shown, answers_unshown, answers_away}
use Rattle.ht_serve.proofs.answering.call_into.Goals as goal

pub returns-in_err-status-in-Ok-clause-answers : goal.returns-in_err-status-in-Ok-clause-answers
returns-in_err-status-in-Ok-clause-answers g c = answers_unshown _ _ _ c.in-Ok.reply _ _ c.in-Ok.ensures.made c.from_residual.ensures.0 (c.in_err-status-in-Ok.ensures.room c.requires.room)

pub returns-in_ok-status-in-Ok-clause-answers : goal.returns-in_ok-status-in-Ok-clause-answers
returns-in_ok-status-in-Ok-clause-answers g c = answers_shown _ _ _ c.in-Ok.reply _ _ c.in-Ok.ensures.made c.status_for.ensures.status c.in_ok-status-in-Ok.ensures.text

pub returns-in-Err-clause-answers : goal.returns-in-Err-clause-answers
returns-in-Err-clause-answers g c = answers_away _ _ _ _ _ c.in-Err.ensures.made c.in-Err.ensures.spent c.refuse_into.ensures.status c.refuse_into.ensures.text

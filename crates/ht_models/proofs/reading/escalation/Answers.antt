use Rattle.std.proofs.lemmas.Result.{err_from_is_err_and}
use Rattle.ht_models.specs.Expressions.{IsRefused}
use Rattle.ht_models.proofs.Among.{one_right}
use Rattle.ht_models.proofs.reading.escalation.Goals as goal

pub returns-in_err-assignment_if_any-2-clause-refused :
    goal.returns-in_err-assignment_if_any-2-clause-refused
returns-in_err-assignment_if_any-2-clause-refused c =
    let back = c.from_residual-in_err-assignment_if_any-2 in
    let p = err_from_is_err_and back.result back.ensures.1 in
    rw (p.1, p.2, ← c.text.view_is) (λ some. one_right (IsRefused c.args.kinds.now) _ _ (c.in_err-assignment_if_any-2.ensures.refused some))

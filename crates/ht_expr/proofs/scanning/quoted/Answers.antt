use Rattle.ht_expr.proofs.Firsts.{first_quoted, no_quoted}
use Rattle.ht_expr.proofs.scanning.quoted.Goals as goal

pub returns-in_err-rest : goal.returns-in_err-rest
returns-in_err-rest c =
    rw c.from_residual-in_err-rest.ensures
    (no_quoted c.args.text.now c.in_ok-inside.inside.now c.split_run.result.0.now c.split_run.result.1.now c.in_ok-inside.ensures c.split_run.ensures c.in_err-rest.ensures)

pub returns : goal.returns
returns c =
    let first = first_quoted c.args.text.now c.in_ok-inside.inside.now c.split_run.result.0.now c.in_ok-rest.rest.now c.in_ok-inside.ensures (rw c.in_ok-rest.ensures at c.split_run.ensures) in
    (_, first.0, first.1)

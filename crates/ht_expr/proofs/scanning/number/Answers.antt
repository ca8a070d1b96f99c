use Rattle.ht_expr.proofs.Firsts.{first_number, no_number}
use Rattle.ht_expr.proofs.scanning.number.Goals as goal

pub returns-in_err-number : goal.returns-in_err-number
returns-in_err-number c = rw c.from_residual.ensures (no_number c.args.text.now c.split_run.result.0.now c.split_run.result.1.now c.split_run.ensures c.requires c.in_err-number.ensures)

pub returns : goal.returns
returns c = (
  c.split_run.result.0.now,
  c.split_run.ensures.split,
  first_number c.args.text.now c.split_run.result.0.now c.split_run.result.1.now _ c.split_run.ensures c.requires c.in_ok-number.ensures.0 c.in_ok-number.ensures.1,
)

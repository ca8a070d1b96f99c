use Rattle.ht_expr.proofs.Scanned.{behind_run}
use Rattle.ht_expr.proofs.scanning.behind_blanks.Goals as goal

pub returns : goal.returns
returns c = behind_run c.args.text.now c.split_run.result.0.now c.split_run.result.1.now c.split_run.ensures

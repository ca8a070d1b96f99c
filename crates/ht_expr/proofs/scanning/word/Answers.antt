use Rattle.ht_expr.proofs.Firsts.{first_word}
use Rattle.ht_expr.proofs.scanning.word.Goals as goal

pub returns : goal.returns
returns c =
    (c.split_run.result.0.now, c.split_run.ensures.split, first_word c.args.text.now c.split_run.result.0.now c.split_run.result.1.now c.split_run.ensures c.requires)

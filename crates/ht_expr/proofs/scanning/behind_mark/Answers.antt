use Rattle.std.proofs.Common.{arith}
use Rattle.std.proofs.lemmas.Str.Pattern.{strip_prefix_char}
use Rattle.ht_expr.proofs.Firsts.{stripped}
use Rattle.ht_expr.proofs.scanning.behind_mark.Goals as goal

pub returns : goal.returns
returns c = stripped c.args.text.now c.strip_prefix.result (strip_prefix_char 39 c.args.text.now c.strip_prefix.result c.strip_prefix.ensures.cases (omega arith))

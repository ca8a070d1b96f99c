use Rattle.ht_expr.proofs.Spelling.{some_text}
use Rattle.ht_expr.proofs.laws.each_tree_has_a_text.Goals as goal

pub returns : goal.returns
returns c = some_text

use Rattle.ht_expr.proofs.Answering.{one_answer, one_written}
use Rattle.ht_expr.proofs.Walking.{some_answer}
use Rattle.ht_expr.proofs.laws.each_text_has_one_answer.Goals as goal

pub returns-clause-tree : goal.returns-clause-tree
returns-clause-tree c = one_written

pub returns-clause-one : goal.returns-clause-one
returns-clause-one c = one_answer

pub returns-clause-some : goal.returns-clause-some
returns-clause-some c = some_answer

use Rattle.std.proofs.Common.{sym}
use Rattle.ht_expr.proofs.Keywords.{if_found, if_not_found}
use Rattle.ht_expr.proofs.keyword.Keyword.of.Goals as goal

pub returns-clause-some : goal.returns-clause-some
returns-clause-some c = if_found c.args.word.now c.spelled_so.result (sym c.spelled_so.ensures)

pub returns-clause-none : goal.returns-clause-none
returns-clause-none c = if_not_found c.args.word.now c.spelled_so.result (sym c.spelled_so.ensures)

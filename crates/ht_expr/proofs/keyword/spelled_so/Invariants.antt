use Rattle.std.proofs.Common.{◌≡◌, drop}
use Rattle.ht_expr.specs.Expected as expected
use Rattle.ht_expr.proofs.keyword.spelled_so.Given as goal

abbrev pub invariant-loop-keyword : goal.invariant-loop-keyword
invariant-loop-keyword l = expected.spelled_so l.word l.keywords ≡ expected.spelled_so l.word (drop l.keyword-index l.keywords)

use Rattle.std.proofs.Common.{◌≡◌, length}
use Rattle.std.specs.Prelude.{reverse}
use Rattle.ht_expr.specs.Expected.{next}
use Rattle.ht_expr.specs.Scanning.{seen}
use Rattle.ht_expr.proofs.expected.take.Given as goal

abbrev pub invariant-loop-first : goal.invariant-loop-first
invariant-loop-first l = next (reverse l.fn.expected.items) (seen l.token) ≡ next (reverse l.expected.items) (seen l.token)

abbrev pub decreases-loop-first : goal.decreases-loop-first
decreases-loop-first l = length l.expected.items

use Rattle.std.proofs.Common.{◌≡◌, length}
use Rattle.std.specs.Prelude.{reverse}
use Rattle.ht_expr.specs.Expected.{is_done}
use Rattle.ht_expr.proofs.expected.is_done.Given as goal

abbrev pub invariant-loop-first : goal.invariant-loop-first
invariant-loop-first l = is_done (reverse l.fn.expected.items) ≡ is_done (reverse l.expected.items)

abbrev pub decreases-loop-first : goal.decreases-loop-first
decreases-loop-first l = length l.expected.items

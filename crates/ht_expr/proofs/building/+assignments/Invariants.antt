use Rattle.std.proofs.Common.{length, ◌-◌, ◌+◌, ◌*◌}
use Rattle.ht_expr.proofs.building.+assignments.Given as goal

abbrev pub decreases-assignment : goal.decreases-assignment
decreases-assignment l = 3 * (length l.tokens.now - l.at) + 2

abbrev pub decreases-operands : goal.decreases-operands
decreases-operands l = 3 * (length l.tokens.now - l.at) + 3

abbrev pub decreases-branches : goal.decreases-branches
decreases-branches l = 3 * (length l.tokens.now - l.at) + 1

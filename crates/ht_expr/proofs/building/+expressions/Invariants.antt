use Rattle.std.proofs.Common.{length, ◌-◌, ◌+◌, ◌*◌}
use Rattle.ht_expr.specs.Building.{ReadsExpression}
use Rattle.ht_expr.proofs.building.+expressions.Given as goal

abbrev pub decreases-expression : goal.decreases-expression
decreases-expression l = 4 * (length l.tokens.now - l.at) + 3

abbrev pub decreases-operand : goal.decreases-operand
decreases-operand l = 4 * (length l.tokens.now - l.at) + 2

abbrev pub decreases-worded : goal.decreases-worded
decreases-worded l = 4 * (length l.tokens.now - l.at) + 1

abbrev pub decreases-conditional : goal.decreases-conditional
decreases-conditional l = 4 * (length l.tokens.now - l.at)

abbrev pub invariant-expression-loop-read : goal.invariant-expression-loop-read
invariant-expression-loop-read l = ReadsExpression l.tokens l.at l.level l.read

abbrev pub decreases-expression-loop-read : goal.decreases-expression-loop-read
decreases-expression-loop-read l = length l.tokens - l.read.next

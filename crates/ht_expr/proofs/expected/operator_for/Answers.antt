use Rattle.std.proofs.Common.{arith, sym}
use Rattle.ht_expr.proofs.Operators.{operator_there}
use Rattle.ht_expr.proofs.expected.operator_for.Goals as goal

pub returns-then-left-operand-clause-taken : goal.returns-then-left-operand-clause-taken
returns-then-left-operand-clause-taken c = (operator_there _ _ (sym c.in_ok-operator.ensures), omega arith, omega arith)

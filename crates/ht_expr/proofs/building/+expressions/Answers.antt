use Rattle.ht_expr.proofs.Growing.{grows}
use Rattle.ht_expr.proofs.building.+expressions.Goals as goal

pub expression-loop-read-preserved : goal.expression-loop-read-preserved
expression-loop-read-preserved t c =
    rw (c.in_ok-left.ensures.ok, c.in_ok-new.ensures.ok)
    (grows c.args.tokens.now c.args.at c.args.level c.loop-read.read.level c.loop-read.read.next c.in_ok-right.right.next c.in_ok-right.right.level _ _ _ _ c.in-Some.operator
    c.loop-read.invariant c.loop-read-test.true c.in-Some.ensures.taken c.level-own.ensures.value c.in_ok-right.ensures)

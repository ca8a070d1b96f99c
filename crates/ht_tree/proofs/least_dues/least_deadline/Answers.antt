use Rattle.std.proofs.Common.{◌∙◌}
use Rattle.ht_tree.proofs.LeastDues.{next_deadline}
use Rattle.ht_tree.proofs.least_dues.least_deadline.Goals as goal

pub loop-place-preserved : goal.loop-place-preserved
loop-place-preserved c =
    next_deadline c.args.row.now c.args.deadlines.now c.loop-place.place c.index-deadlines-place.result c.loop-place.least c.deadline_due.result c.lesser-least.result c.loop-place-test.true c.index-deadlines-place.is c.deadline_due.ensures c.lesser-least.ensures
    ∙ c.loop-place.invariant

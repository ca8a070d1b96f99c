use Rattle.std.proofs.Common.{arith}
use Rattle.ht_tree.proofs.Putting.{few_put}
use Rattle.ht_tree.proofs.plan.Plan.new_rows.Goals as goal

pub overflow_sub-result : goal.overflow_sub-result
overflow_sub-result c =
    let t = c.args.tables.now.tables in
    let more = few_put t t.rows ((c.args.self.now).changes).rows c.requires.changes_fit in
    omega (arith, c.rows.ensures, c.rows-2.ensures.value)

use Rattle.std.proofs.Common.{◌<◌, ◌^◌, rules}
use Rattle.ht_tree.specs.Plans.{planned}
use Rattle.ht_tree.proofs.Planning.{totals_small}
use Rattle.ht_tree.proofs.plan.Plan.size.Goals as goal

pub returns-clause-small : goal.returns-clause-small
returns-clause-small c =
    let low : c.totals.result.rows < 2 ^ 32 = search rules in
    totals_small c.args.tables.now.tables (planned c.args.tables.now.tables c.args.self.now).rows c.totals.result c.totals.ensures low

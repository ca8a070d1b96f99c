use Rattle.std.proofs.Common.{ap, sym, ◌∙◌}
use Rattle.ht_tree.specs.Plans.{PlanOf}
use Rattle.ht_tree.proofs.Planning.{noted_totals, nothing_put, start_totals}
use Rattle.ht_tree.proofs.plan.Plan.totals.Goals as goal

pub returns-in-Some : goal.returns-in-Some
returns-in-Some c = noted_totals c.args.tables.now.tables c.args.self.now c.in-Some.totals c.requires (ap (λ (p : PlanOf). (p.changes).totals) (sym c.self.view_is) ∙ c.in-Some.is)

pub returns-in-None : goal.returns-in-None
returns-in-None c =
    let t = c.args.tables.now.tables in
    nothing_put t c.args.self.now _ c.requires (ap (λ (p : PlanOf). (p.changes).totals) (sym c.self.view_is) ∙ c.in-None.is) (start_totals t c.rows.result c.from.result c.rows.ensures.sound c.rows.ensures.value (c.from.ensures ∙ c.size.ensures.value))

use Rattle.std.proofs.Common.{Some, None, ap, sym, ◌∙◌}
use Rattle.ht_tree.specs.Places.{last_of}
use Rattle.ht_tree.specs.Plans.{PlanOf}
use Rattle.ht_tree.proofs.Fitting.{put_fits, sound_fits}
use Rattle.ht_tree.proofs.Planning.{row_after}
use Rattle.ht_tree.proofs.plan.Plan.row.Goals as goal

pub returns-in-Some-clause-value : goal.returns-in-Some-clause-value
returns-in-Some-clause-value c =
    let id = c.args.id.0 in
    row_after c.args.tables.now.tables c.args.self.now id (Some c.in-Some.row.now) c.requires (c.in-Some.ensures ∙ ap (λ (p : PlanOf). last_of id (p.changes).rows) c.self.view_is)

pub returns-in-None-clause-value : goal.returns-in-None-clause-value
returns-in-None-clause-value c =
    let id = c.args.id.0 in
    c.row.ensures.value ∙ row_after c.args.tables.now.tables c.args.self.now id None c.requires (c.in-None.ensures ∙ ap (λ (p : PlanOf). last_of id (p.changes).rows) c.self.view_is)

pub returns-in-Some-clause-fits : goal.returns-in-Some-clause-fits
returns-in-Some-clause-fits c =
    let t = c.args.tables.now.tables in
    let id = c.args.id.0 in
    put_fits t t.rows ((c.args.self.now).changes).rows id c.in-Some.row.now c.requires.changes_fit (sym (c.in-Some.ensures ∙ ap (λ (p : PlanOf). last_of id (p.changes).rows) c.self.view_is))

pub returns-in-None-clause-fits : goal.returns-in-None-clause-fits
returns-in-None-clause-fits c = sound_fits c.args.tables.now.tables c.row.result c.row.ensures.sound

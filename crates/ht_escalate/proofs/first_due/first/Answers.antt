use Rattle.std.proofs.Common.{◌∙◌, sym}
use Rattle.ht_escalate.proofs.Firsts.{first_late, first_none, first_soon}
use Rattle.ht_escalate.proofs.first_due.first.Goals as goal

pub returns-in_default : goal.returns-in_default
returns-in_default c =
    first_none c.args.tables.now.tables c.args.plan.now c.args.by.0 c.requires c.first_kept-kept.ensures.sound c.first_kept-kept.result c.least_changed-changed.result c.first_kept-kept.ensures.first c.least_changed-changed.ensures
    (sym c.lesser.ensures ∙ c.in_default.is)

pub returns-then-due-by : goal.returns-then-due-by
returns-then-due-by c =
    first_late c.args.tables.now.tables c.args.plan.now c.args.by.0 c.requires c.first_kept-kept.ensures.sound c.first_kept-kept.result c.least_changed-changed.result c.first_kept-kept.ensures.first c.least_changed-changed.ensures
    c.in-Some.due (sym c.lesser.ensures ∙ c.in-Some.is) c.if-due-by.true

pub returns : goal.returns
returns c =
    first_soon c.args.tables.now.tables c.args.plan.now c.args.by.0 c.requires c.first_kept-kept.ensures.sound c.first_kept-kept.result c.least_changed-changed.result c.first_kept-kept.ensures.first c.least_changed-changed.ensures
    c.in-Some.due (sym c.lesser.ensures ∙ c.in-Some.is) c.if-due-by.false

use Rattle.std.proofs.Common.{◌∙◌, sym}
use Rattle.ht_tree.proofs.DueRows.{told_by_moment, told_by_none}
use Rattle.ht_tree.proofs.row_dues.has_due.Goals as goal

pub returns-in-Some : goal.returns-in-Some
returns-in-Some c = told_by_moment c.args.models.now c.args.row.now c.args.due c.in-Some.at c.requires.task (sym c.moment_as.ensures ∙ c.in-Some.is)

pub returns-in-None : goal.returns-in-None
returns-in-None c = told_by_none c.args.models.now c.args.row.now c.args.due c.requires.task (sym c.moment_as.ensures ∙ c.in-None.is)

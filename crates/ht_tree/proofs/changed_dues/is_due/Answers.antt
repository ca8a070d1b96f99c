use Rattle.std.proofs.Common.{◌∙◌, List, ap, sym}
use Rattle.ht_due.specs.Dues.{has}
use Rattle.ht_models.specs.Model.{ModelOf}
use Rattle.ht_tree.specs.Plans.{planned}
use Rattle.ht_tree.specs.RowDues.{row_dues}
use Rattle.ht_tree.proofs.DueRows.{by_its_row, by_no_row}
use Rattle.ht_tree.proofs.changed_dues.is_due.Goals as goal

pub returns-in-Some : goal.returns-in-Some
returns-in-Some c =
    let u = planned c.args.tables.now.tables c.args.plan.now in
    let row = c.in-Some.row.now in
    c.has_due.ensures
    ∙ ap (λ (ms : List ModelOf). has c.args.due (row_dues ms row)) c.models.ensures.value
    ∙ sym (by_its_row u c.args.due row c.requires.plan.sound.numbered (sym c.in-Some.ensures.value))

pub returns-in-None : goal.returns-in-None
returns-in-None c =
    let u = planned c.args.tables.now.tables c.args.plan.now in
    sym (by_no_row u c.args.due c.requires.plan.sound.numbered (sym c.in-None.ensures.value))

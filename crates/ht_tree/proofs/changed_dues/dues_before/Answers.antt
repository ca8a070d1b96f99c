use Rattle.std.proofs.Common.{◌≡◌, List, ap, ◌∙◌, arith}
use Rattle.std.proofs.lemmas.Grind.{common_steps}
use Rattle.std.specs.List.{flat_map}
use Rattle.ht_due.specs.declared.due.Due.{Due}
use Rattle.ht_due.specs.Dues.{in_order}
use Rattle.ht_tree.specs.declared.row.Row.{Row}
use Rattle.ht_tree.specs.RowDues.{task_dues}
use Rattle.ht_tree.proofs.changed_dues.dues_before.Goals as goal

pub returns : goal.returns
returns c =
    let f : Row → List Due = λ row. task_dues c.args.tables.now.tables.models c.args.tables.now.tables.rows row.task.0 in
    let all : c.loop-put.dues.items ≡ flat_map f c.args.plan.now.changes.rows = grind (arith, common_steps) in
    c.in_order.ensures.value ∙ ap in_order all

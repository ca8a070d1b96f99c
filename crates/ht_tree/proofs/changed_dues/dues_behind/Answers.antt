use Rattle.std.proofs.Common.{◌∙◌, ◌++◌, [], List, ap, arith, subst, sym}
use Rattle.std.specs.Prelude.{option_map}
use Rattle.std.specs.Option.{option_map_or}
use Rattle.ht_models.specs.Model.{ModelOf}
use Rattle.ht_due.proofs.PublicLaws.{has_in_order, in_order_ascends}
use Rattle.ht_due.specs.Dues.{Ascends, has}
use Rattle.ht_tree.specs.Plans.{planned}
use Rattle.ht_tree.specs.RowDues.{row_dues}
use Rattle.ht_tree.proofs.DueRows.{all_tasks, one_task_more}
use Rattle.ht_tree.proofs.changed_dues.dues_behind.Goals as goal

pub loop-id-preserved : goal.loop-id-preserved
loop-id-preserved c =
    let u = planned c.args.tables.now.tables c.args.plan.now in
    let row = option_map (λ r. r.now) c.row.result in
    let more = c.in_ok-add_dues_of.ensures ∙ ap (λ (ms : List ModelOf). c.loop-id.dues.items ++ option_map_or (row_dues ms) row []) c.models.ensures.value in
    one_task_more u.models u.rows c.requires.plan.sound.numbered c.args.last c.loop-id.id c.loop-id.dues.items c.add_dues_of.new.dues.items row (omega arith) c.row.ensures.value more c.loop-id.invariant

pub returns-clause-has : goal.returns-clause-has
returns-clause-has c = λ q.
    let u = planned c.args.tables.now.tables c.args.plan.now in
    ap (has q) c.in_order.ensures.value ∙ has_in_order q c.loop-id.dues.items ∙ c.loop-id.invariant q ∙ all_tasks u c.args.last c.loop-id.id q c.requires.plan.sound.numbered (omega arith)

pub returns-clause-ascend : goal.returns-clause-ascend
returns-clause-ascend c = subst Ascends (sym c.in_order.ensures.value) (in_order_ascends c.loop-id.dues.items)

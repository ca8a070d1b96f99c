use Rattle.ht_due.specs.Dues.{least_of}
use Rattle.std.proofs.Common.{◌≡◌, Bor, List, [], Option, ap, option_map, ◌∙◌}
use Rattle.std.specs.Option.{option_map_or}
use Rattle.ht_due.specs.declared.due.Due.{Due}
use Rattle.ht_models.specs.Model.{ModelOf}
use Rattle.ht_tree.specs.declared.row.Row.{Row}
use Rattle.ht_tree.specs.Plans.{planned}
use Rattle.ht_tree.specs.RowDues.{row_dues, task_dues}
use Rattle.ht_tree.proofs.LeastDues.{next_row}
use Rattle.ht_tree.proofs.least_dues.least_changed.Goals as goal

pub loop-put-preserved : goal.loop-put-preserved
loop-put-preserved c =
    let t = c.args.tables.now.tables in
    let dues : Row → List Due = λ row. task_dues t.models (planned t c.args.plan.now).rows row.task.0 in
    let next : c.least_of.result ≡ least_of (dues c.put-item.result) =
    c.least_of.ensures
    ∙ ap (λ (ms : List ModelOf). least_of (option_map_or (row_dues ms) (option_map (λ (r : Bor Row). r.now) c.row-row.result) [])) c.models.ensures.value
    ∙ ap (λ (o : Option Row). least_of (option_map_or (row_dues t.models) o [])) c.row-row.ensures.value in
    next_row dues c.puts-put-items.result.now c.loop-put.put-index c.put-item.result c.loop-put.least c.least_of.result c.lesser-least.result c.loop-put-test.true c.put-item.is next c.lesser-least.ensures
    ∙ c.loop-put.invariant

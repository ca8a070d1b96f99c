use Rattle.ht_due.specs.Dues.{lesser, least_of}
use Rattle.std.proofs.Common.{◌≡◌, drop}
use Rattle.std.specs.List.{flat_map}
use Rattle.ht_tree.specs.Plans.{planned}
use Rattle.ht_tree.specs.RowDues.{task_dues}
use Rattle.ht_tree.proofs.least_dues.least_changed.Given as goal

abbrev pub invariant-loop-put : goal.invariant-loop-put
invariant-loop-put l =
    let rows = (planned (l.tables).tables l.plan).rows in
    let models = ((l.tables).tables).models in
    lesser l.least (least_of (flat_map (λ row. task_dues models rows row.task.0) (drop l.put-index l.put-items))) ≡ least_of (flat_map (λ row. task_dues models rows row.task.0) l.put-items)

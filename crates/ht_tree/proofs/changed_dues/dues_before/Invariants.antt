use Rattle.std.proofs.Common.{◌≡◌, ◌++◌, drop}
use Rattle.std.specs.List.{flat_map}
use Rattle.ht_tree.specs.RowDues.{task_dues}
use Rattle.ht_tree.proofs.changed_dues.dues_before.Given as goal

abbrev pub invariant-loop-put : goal.invariant-loop-put
invariant-loop-put l = l.dues.items ++ flat_map (λ row. task_dues ((l.tables).tables).models ((l.tables).tables).rows row.task.0) (drop l.put-index l.put-items) ≡ flat_map (λ row. task_dues ((l.tables).tables).models ((l.tables).tables).rows row.task.0) l.put-items

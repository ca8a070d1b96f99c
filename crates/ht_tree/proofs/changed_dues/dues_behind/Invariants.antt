use Rattle.std.proofs.Common.{◌≡◌, ◌&&◌}
use Rattle.std.specs.Prelude.{nat_le, nat_lt}
use Rattle.ht_due.specs.declared.due.Due.{Due}
use Rattle.ht_due.specs.Dues.{has}
use Rattle.ht_tree.specs.Plans.{planned}
use Rattle.ht_tree.specs.RowDues.{task_dues}
use Rattle.ht_tree.proofs.changed_dues.dues_behind.Given as goal

-- the dues of the tasks up to this one
abbrev pub invariant-loop-id : goal.invariant-loop-id
invariant-loop-id l = (q : Due) → has q l.dues.items ≡ ((nat_lt l.last q.task.0 && nat_le q.task.0 l.id) && has q (task_dues ((l.tables).tables).models (planned (l.tables).tables l.plan).rows q.task.0))

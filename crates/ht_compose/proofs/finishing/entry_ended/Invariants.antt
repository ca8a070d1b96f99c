use Rattle.std.proofs.Common.{◌≡◌, Bool, List, drop}
use Rattle.ht_base.specs.declared.task_id.TaskId.{TaskId}
use Rattle.ht_compose.specs.Finding.{rows_of}
use Rattle.ht_compose.specs.Finishes.{entry_ended}
use Rattle.ht_compose.proofs.finishing.entry_ended.Given as goal
use Rattle.ht_tree.specs.Plans.{planned}

abbrev pub invariant-loop-id : goal.invariant-loop-id
invariant-loop-id l =
    let among : List TaskId → Bool = λ ids. entry_ended l.task.0 l.entry (rows_of (planned l.tables.tables l.plan) ids) in
    among l.subs ≡ among (drop l.id-index l.subs)

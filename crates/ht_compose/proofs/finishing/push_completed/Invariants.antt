use Rattle.std.proofs.Common.{◌≡◌, ◌++◌, List, drop, map}
use Rattle.ht_base.specs.declared.task_id.TaskId.{TaskId}
use Rattle.ht_compose.specs.Finding.{rows_of}
use Rattle.ht_compose.specs.Finishes.{completed_of}
use Rattle.ht_compose.proofs.finishing.push_completed.Given as goal
use Rattle.ht_tree.specs.Plans.{planned}

-- what was found, with those among the rest
abbrev pub invariant-loop-id : goal.invariant-loop-id
invariant-loop-id l =
    let among : List TaskId → List TaskId = λ ids. map (λ s. s.task) (completed_of l.task.0 l.entry (rows_of (planned l.tables.tables l.plan) ids)) in
    l.found.items ++ among (drop l.id-index l.subs) ≡ l.initial.found.items ++ among l.subs

use Rattle.std.proofs.Common.{◌≡◌, Bool, List, drop}
use Rattle.std.specs.List.{list_any}
use Rattle.ht_base.specs.declared.task_id.TaskId.{TaskId}
use Rattle.ht_compose.specs.Finding.{rows_of}
use Rattle.ht_compose.proofs.checking.has_final.Given as goal
use Rattle.ht_base.specs.State.{is_final}
use Rattle.ht_tree.specs.Plans.{planned}

abbrev pub invariant-loop-id : goal.invariant-loop-id
invariant-loop-id l =
    let among : List TaskId → Bool = λ ids. list_any (λ s. is_final s.state) (rows_of (planned l.tables.tables l.plan) ids) in
    among l.subs ≡ among (drop l.id-index l.subs)

use Rattle.std.proofs.Common.{rules}
use Rattle.std.specs.Ordering.{nat_cmp}
use Rattle.std.proofs.lemmas.Fn.{always_returns_same}
use Rattle.ht_base.specs.declared.task_id.TaskId.{TaskId}
use Rattle.ht_index.proofs.Places.{search_found, search_missed}
use Rattle.ht_index.proofs.finding.search.Goals as goal

pub returns-clause-found : goal.returns-clause-found
returns-clause-found c =
    let facts = c.binary_search_by.ensures in
    let by_number = facts.position (λ (t : TaskId). nat_cmp t.0 c.args.task.0) (always_returns_same _ _ _ (λ a r f called. (search rules, search rules))) in
    search_found c.args.task c.args.tasks.now _ c.requires facts.bound by_number

pub returns-clause-missed : goal.returns-clause-missed
returns-clause-missed c =
    let facts = c.binary_search_by.ensures in
    let by_number = facts.position (λ (t : TaskId). nat_cmp t.0 c.args.task.0) (always_returns_same _ _ _ (λ a r f called. (search rules, search rules))) in
    search_missed c.args.task c.args.tasks.now _ c.requires facts.bound by_number

use Rattle.std.proofs.Common.{◌-◌, ◌+◌, ℕ, Option, ap, sym, ◌∙◌}
use Rattle.ht_base.specs.declared.task_id.TaskId.{TaskId}
use Rattle.ht_compose.specs.Families.{leads_to}
use Rattle.ht_compose.proofs.Chains.{leads_on}
use Rattle.ht_compose.proofs.above.is_below.Goals as goal
use Rattle.ht_tree.specs.Plans.{planned}

pub loop-step-preserved : goal.loop-step-preserved
loop-step-preserved c =
    let rows = (planned c.args.tables.now.tables c.args.plan.now).rows in
    let task = c.args.task.0 in
    let n = c.args.row.now.task.0 in
    let i = c.loop-step._step in
    let p : TaskId × ℕ = (c.in-Some.above, c.in-Some.field-0-1) in
    ap (λ (o : Option (TaskId × ℕ)). leads_to (n - (i + 1)) rows task o) c.parent_of-parent.ensures
    ∙ sym (leads_on n i rows task p c.loop-step-test.true (sym c.eq.ensures ∙ c.if-eq.false))
    ∙ ap (λ (o : Option (TaskId × ℕ)). leads_to (n - i) rows task o) (sym c.in-Some.is)
    ∙ c.loop-step.invariant

use Rattle.std.proofs.Common.{ℕ, ◌+◌, length, sym, subst, arith}
use Rattle.ht_compose.specs.Composing.{IsSubTask}
use Rattle.ht_compose.proofs.NewSubs.{numbers_left}
use Rattle.ht_compose.proofs.StayingThere.{sub_task_made}
use Rattle.ht_compose.proofs.composing.instantiate.Goals as goal
use Rattle.ht_tree.specs.Plans.{planned}
use Rattle.ht_tree.specs.Tables.{TablesOf}

pub overflow_add-new : goal.overflow_add-new
overflow_add-new c =
    let left = numbers_left (planned c.args.tables.now.tables c.args.plan.now) c.requires.plan.sound in
    omega (arith, left)

pub returns-clause-made : goal.returns-clause-made
returns-clause-made c =
    let t = c.args.tables.now.tables in
    let u = planned t c.args.plan.now in
    let runs = c.in_ok-run.ensures.runs in
    let T : TablesOf → Type 0 = λ v. IsSubTask v c.args.task.0 c.args.entry (length u.rows + 1) in
    let N : ℕ → Type 0 = λ n. IsSubTask (planned t c.run.new.plan) c.args.task.0 c.args.entry (n + 1) in
    subst N (sym c.rows.ensures) (subst T (sym (runs.goes).to) (sub_task_made c.args.at u runs.after c.args.task.0 c.args.entry c.count_models.ensures.sized c.count_models.ensures.mapped c.requires.plan.sound c.requires.entry runs.ends))

use Rattle.std.proofs.Common.{List, map, ap, refl, ◌∙◌}
use Rattle.std.proofs.lemmas.Result.{on_ok_weaker}
use Rattle.ht_base.specs.declared.task_id.TaskId.{TaskId}
use Rattle.ht_compose.specs.Items.Item.{Check}
use Rattle.ht_compose.proofs.Freed.{freed_then, then_itself}
use Rattle.ht_compose.proofs.freeing.free.Goals as goal
use Rattle.ht_tree.specs.Plans.{planned}

pub returns-clause-frees : goal.returns-clause-frees
returns-clause-frees c =
    let t = c.args.tables.now.tables in
    let u = planned t c.args.plan.now in
    let ids = c.deref.result.now in
    let are = ap (λ (l : List TaskId). map (λ id. Check id.0) l) c.deref.ensures.value ∙ then_itself u c.requires.plan.sound c.args.task.0 c.in_ok-tasks.tasks.items c.push.new.self.items c.args.task refl c.in_ok-push.ensures.items c.in_ok-tasks.ensures.freed in
    on_ok_weaker c.check_all.result (freed_then t c.args.plan.now c.free_below.new.plan c.check_all.new.plan c.args.at c.args.task.0 ids c.requires.plan.sound are c.in_ok-tasks.ensures.goes) c.check_all.ensures.runs

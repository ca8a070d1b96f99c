use Rattle.std.proofs.Common.{List, subst}
use Rattle.ht_base.specs.declared.task_id.TaskId.{TaskId}
use Rattle.ht_compose.specs.Trees.{AddsTree}
use Rattle.ht_compose.proofs.InTrees.{whole_tree}
use Rattle.ht_compose.proofs.trees.tree_of.Goals as goal
use Rattle.ht_tree.specs.Plans.{planned}

pub returns : goal.returns
returns c =
    let u = planned c.args.tables.now.tables c.args.plan.now in
    let A : List TaskId → Type 0 = λ l. AddsTree u.rows c.args.task.0 l c.add_tree.new.tasks.items in
    whole_tree u c.requires.plan.sound c.args.task.0 c.add_tree.new.tasks.items (subst A c.new-tasks.ensures.items c.in_ok-add_tree.ensures)

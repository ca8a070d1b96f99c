use Rattle.std.proofs.Common.{◌∙◌, ◌||◌, [], List, ap, subst, sym}
use Rattle.std.specs.List.{flat_map}
use Rattle.ht_due.specs.declared.due.Due.{Due}
use Rattle.ht_due.specs.Dues.{Ascends, has}
use Rattle.ht_due.proofs.PublicLaws.{ascends_all_put}
use Rattle.ht_machine.proofs.Coursing.{begins}
use Rattle.ht_machine.proofs.course.Course.begin.Goals as goal
use Rattle.ht_tree.specs.declared.row.Row.{Row}
use Rattle.ht_tree.specs.Plans.{planned}
use Rattle.ht_tree.specs.RowDues.{task_dues}

pub add_all-requires-clause-ascend : goal.add_all-requires-clause-ascend
add_all-requires-clause-ascend c =
    let t = c.args.tables.now.tables in
    let p = c.args.plan.now in
    let dues : Row → List Due = λ row. task_dues t.models (planned t p).rows row.task.0 in
    subst Ascends (sym (c.deref.ensures.value ∙ c.in_ok-dues.ensures)) (ascends_all_put [] (flat_map dues p.changes.rows) tt)

pub returns-clause-course : goal.returns-clause-course
returns-clause-course c = begins c.args.tables.now.tables c.args.plan.now c.deref.result.now c.add_all.new.queue.dues c.requires.plan.fits c.in_step.ensures c.requires.plan.sound (c.deref.ensures.value ∙ c.in_ok-dues.ensures) c.in_ok-add_all.ensures.ascend (λ q. c.in_ok-add_all.ensures.has q ∙ ap (λ (l : List Due). has q c.deref.result.now || has q l) c.new-news.ensures)

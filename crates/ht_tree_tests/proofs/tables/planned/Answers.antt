use Rattle.std.proofs.Common.{ℕ, ◌≤◌, Option, subst, sym, arith}
use Rattle.std.proofs.lemmas.Result.{on_ok_weaker}
use Rattle.ht_base.specs.declared.task_id.TaskId.{TaskId}
use Rattle.ht_base.specs.Moment.{last_moment}
use Rattle.ht_tree.specs.Families.{MayCome}
use Rattle.ht_tree.specs.Plans.{planned}
use Rattle.ht_tree_tests.proofs.tables.planned.Goals as goal

pub returns-clause-sound : goal.returns-clause-sound
returns-clause-sound g c =
    let within = c.models.ensures.sound.last_within in
    let last = c.last-at.ensures.value in
    let early : c.last-at.result.0 ≤ last_moment = omega arith in
    let M : Option (TaskId × ℕ) → Type 0 = λ o. MayCome c.args.tables.now.tables.models (planned c.args.tables.now.tables c.args.plan.now).rows c.args.model o in
    on_ok_weaker c.create.result (λ keeps none. keeps (subst M (sym none) tt) early tt) c.create.ensures.sound

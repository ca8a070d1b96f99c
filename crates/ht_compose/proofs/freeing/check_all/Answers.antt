use Rattle.std.proofs.Common.{◌≡◌, ℕ, ◌+◌, ◌<◌, List, [], ◌∷◌, ◌++◌, length, map, take, get_or, ap, sym, subst, ◌∙◌}
use Rattle.std.proofs.lemmas.List.{map-append, take_more}
use Rattle.ht_base.specs.declared.moment.Moment.{Moment}
use Rattle.ht_base.specs.declared.task_id.TaskId.{TaskId}
use Rattle.ht_compose.specs.Items.{Item}
use Rattle.ht_compose.specs.Items.Item.{Check}
use Rattle.ht_compose.specs.Running.{Runs}
use Rattle.ht_compose.proofs.Going.{runs_none, runs_then}
use Rattle.ht_compose.proofs.freeing.check_all.Goals as goal
use Rattle.ht_tree.specs.Plans.{PlanOf}
use Rattle.ht_tree.specs.Tables.{TablesOf}

abbrev checks : List TaskId → List Item
checks ids = map (λ id. Check id.0) ids

one_more : (t : TablesOf) (old mid new : PlanOf) (at : Moment) (ids : List TaskId) (i : ℕ) (other : TaskId) → i < length ids → Runs t old mid at (checks (take i ids)) → Runs t mid new at (Check (get_or ids i other).0 ∷ []) → Runs t old new at (checks (take (i + 1) ids))
one_more t old mid new at ids i other within before runs =
    let R : List Item → Type 0 = λ is. Runs t old new at is in
    let more : checks (take (i + 1) ids) ≡ checks (take i ids) ++ Check (get_or ids i other).0 ∷ [] =
    ap checks (take_more ids i other within) ∙ map-append (λ id. Check id.0) (take i ids) (get_or ids i other ∷ []) in
    subst R (sym more) (runs_then t old mid new at (checks (take i ids)) (Check (get_or ids i other).0 ∷ []) before runs)

pub loop-task-init : goal.loop-task-init
loop-task-init c = runs_none c.args.tables.now.tables c.args.plan.now c.args.at c.requires.plan.fits c.requires.plan.sound

pub loop-task-preserved : goal.loop-task-preserved
loop-task-preserved c = one_more c.args.tables.now.tables c.args.plan.now c.loop-task.plan c.run.new.plan c.args.at c.args.tasks.now c.loop-task.task-index _ c.loop-task-test.true c.loop-task.invariant c.in_ok-run.ensures.runs

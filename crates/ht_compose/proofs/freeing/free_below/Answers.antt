use Rattle.std.proofs.Common.{◌≡◌, ◌++◌, Bool, List, [], ◌∷◌, if◌then◌else◌, ap, refl, subst, sym, ◌∙◌}
use Rattle.std.proofs.lemmas.List.{append-nil, nil_from_length}
use Rattle.ht_base.specs.declared.task_id.TaskId.{TaskId}
use Rattle.ht_compose.specs.declared.reaching.Reach.TheVariants as reach
use Rattle.ht_compose.proofs.Freed.{all_freed, freed_in, frees_next, tasks_checked}
use Rattle.ht_compose.proofs.Reached.{all_sound}
use Rattle.ht_compose.proofs.Spread.{AreLeft, Going, all_left, begins, done, is_there}
use Rattle.ht_compose.proofs.freeing.free_below.Goals as goal
use Rattle.ht_tree.specs.Plans.{planned}
use Rattle.ht_tree.specs.Soundness.{IsSound}
use Rattle.ht_tree.specs.Tables.{TablesOf}

pub loop-id-init : goal.loop-id-init
loop-id-init c =
    let t = c.args.tables.now.tables in
    let p = c.args.plan.now in
    let u = planned t p in
    record {
      goes = begins u c.requires.plan.sound c.args.task.0 reach.Free tt t p c.in_ok-left.left.items c.requires.plan.fits refl c.in_ok-left.ensures;
      are = all_left u c.requires.plan.sound c.args.task.0 c.in_ok-left.left.items c.in_ok-left.ensures;
      listed =
          ap (λ (l : List TaskId). tasks_checked l ++ freed_in u c.args.task.0 c.in_ok-left.left.items) c.new-freed.ensures.items
          ∙ ap (freed_in u c.args.task.0) c.in_ok-left.ensures;
    }

pub reach_one-requires-clause-there : goal.reach_one-requires-clause-there
reach_one-requires-clause-there c =
    let t = c.args.tables.now.tables in
    let p = c.args.plan.now in
    let u = planned t p in
    let L : List TaskId → Type 0 = λ l. AreLeft u l in
    let G : List TaskId → Type 0 = λ l. Going u c.requires.plan.sound c.args.task.0 reach.Free tt t p c.loop-id.plan l in
    is_there u c.requires.plan.sound c.args.task.0 reach.Free tt t p c.loop-id.plan c.pop.new.self.items c.in-Some.id (subst L c.in-Some.ensures.items c.loop-id.invariant.are) (subst G c.in-Some.ensures.items c.loop-id.invariant.goes)

pub loop-id-preserved : goal.loop-id-preserved
loop-id-preserved c =
    let freed = c.loop-id.freed.items in
    let listed : freed ≡ freed ++ (if c.in_ok-reach_one.field-0 then c.in-Some.id ∷ [] else []) = sym (append-nil freed) ∙ ap (λ (b : Bool). freed ++ (if b then c.in-Some.id ∷ [] else [])) (sym c.if-branch.false) in
    frees_next c.args.tables.now.tables c.args.plan.now c.loop-id.plan c.reach_one.new.plan c.args.task.0 c.loop-id.left.items c.pop.new.self.items c.in-Some.id freed freed c.in_ok-reach_one.field-0 c.requires.plan.sound c.in-Some.ensures.items c.loop-id.invariant c.in_ok-reach_one.ensures.reaches c.in_ok-reach_one.ensures.changes listed

pub loop-id-preserved-in-Continue-branch-3 : goal.loop-id-preserved-in-Continue-branch-3
loop-id-preserved-in-Continue-branch-3 c =
    let freed = c.loop-id.freed.items in
    let listed : c.push.new.self.items ≡ freed ++ (if c.in_ok-reach_one.field-0 then c.in-Some.id ∷ [] else []) = c.in_ok-push.ensures.items ∙ ap (λ (b : Bool). freed ++ (if b then c.in-Some.id ∷ [] else [])) (sym c.if-branch.true) in
    frees_next c.args.tables.now.tables c.args.plan.now c.loop-id.plan c.reach_one.new.plan c.args.task.0 c.loop-id.left.items c.pop.new.self.items c.in-Some.id freed c.push.new.self.items c.in_ok-reach_one.field-0 c.requires.plan.sound c.in-Some.ensures.items c.loop-id.invariant c.in_ok-reach_one.ensures.reaches c.in_ok-reach_one.ensures.changes listed

pub returns-clause-goes : goal.returns-clause-goes
returns-clause-goes c =
    let t = c.args.tables.now.tables in
    let p = c.args.plan.now in
    let u = planned t p in
    let none = nil_from_length c.loop-id.left.items (sym c.loop-id.left.ok.0 ∙ c.in_default.ensures.cases.0) in
    let G : List TaskId → Type 0 = λ l. Going u c.requires.plan.sound c.args.task.0 reach.Free tt t p c.loop-id.plan l in
    done u c.requires.plan.sound c.args.task.0 reach.Free tt t p c.loop-id.plan (subst G none c.loop-id.invariant.goes)

pub returns-clause-sound : goal.returns-clause-sound
returns-clause-sound c =
    let u = planned c.args.tables.now.tables c.args.plan.now in
    let P : TablesOf → Type 0 = λ v. IsSound v in
    subst P (sym (returns-clause-goes c).to) (all_sound u c.requires.plan.sound c.args.task.0 reach.Free tt)

pub returns-clause-freed : goal.returns-clause-freed
returns-clause-freed c =
    let u = planned c.args.tables.now.tables c.args.plan.now in
    let none = nil_from_length c.loop-id.left.items (sym c.loop-id.left.ok.0 ∙ c.in_default.ensures.cases.0) in
    all_freed u c.requires.plan.sound c.args.task.0 c.loop-id.freed.items (ap (λ (l : List TaskId). tasks_checked c.loop-id.freed.items ++ freed_in u c.args.task.0 l) (sym none) ∙ c.loop-id.invariant.listed)

use Rattle.std.proofs.Common.{List, refl, subst, sym, ◌∙◌}
use Rattle.std.proofs.lemmas.List.{nil_from_length}
use Rattle.ht_base.specs.declared.task_id.TaskId.{TaskId}
use Rattle.ht_compose.proofs.Reached.{all_sound}
use Rattle.ht_compose.proofs.Spread.{AreLeft, Going, all_left, begins, done, front_left, goes_further, is_there}
use Rattle.ht_compose.proofs.spreading.spread.Goals as goal
use Rattle.ht_tree.specs.Plans.{planned}
use Rattle.ht_tree.specs.Soundness.{IsSound}
use Rattle.ht_tree.specs.Tables.{TablesOf}

pub loop-id-init : goal.loop-id-init
loop-id-init c =
    let t = c.args.tables.now.tables in
    let p = c.args.plan.now in
    let u = planned t p in
    record {
      goes = begins u c.requires.plan.sound c.args.task.0 c.args.reach c.requires.ends t p c.in_ok-left.left.items c.requires.plan.fits refl c.in_ok-left.ensures;
      left = all_left u c.requires.plan.sound c.args.task.0 c.in_ok-left.left.items c.in_ok-left.ensures;
    }

pub reach_one-requires-clause-there : goal.reach_one-requires-clause-there
reach_one-requires-clause-there c =
    let t = c.args.tables.now.tables in
    let p = c.args.plan.now in
    let u = planned t p in
    let L : List TaskId → Type 0 = λ l. AreLeft u l in
    let G : List TaskId → Type 0 = λ l. Going u c.requires.plan.sound c.args.task.0 c.args.reach c.requires.ends t p c.loop-id.plan l in
    is_there u c.requires.plan.sound c.args.task.0 c.args.reach c.requires.ends t p c.loop-id.plan c.pop.new.self.items c.in-Some.id (subst L c.in-Some.ensures.items c.loop-id.invariant.left) (subst G c.in-Some.ensures.items c.loop-id.invariant.goes)

pub loop-id-preserved : goal.loop-id-preserved
loop-id-preserved c =
    let t = c.args.tables.now.tables in
    let p = c.args.plan.now in
    let u = planned t p in
    let L : List TaskId → Type 0 = λ l. AreLeft u l in
    let G : List TaskId → Type 0 = λ l. Going u c.requires.plan.sound c.args.task.0 c.args.reach c.requires.ends t p c.loop-id.plan l in
    let left = subst L c.in-Some.ensures.items c.loop-id.invariant.left in
    record {
      goes = goes_further u c.requires.plan.sound c.args.task.0 c.args.reach c.requires.ends t p c.loop-id.plan c.reach_one.new.plan c.pop.new.self.items c.in-Some.id left (subst G c.in-Some.ensures.items c.loop-id.invariant.goes) c.in_ok-reach_one.ensures.reaches;
      left = front_left u c.pop.new.self.items c.in-Some.id left;
    }

pub returns-clause-reaches : goal.returns-clause-reaches
returns-clause-reaches c =
    let t = c.args.tables.now.tables in
    let p = c.args.plan.now in
    let u = planned t p in
    let none = nil_from_length c.loop-id.left.items (sym c.loop-id.left.ok.0 ∙ c.in_default.ensures.cases.0) in
    let G : List TaskId → Type 0 = λ l. Going u c.requires.plan.sound c.args.task.0 c.args.reach c.requires.ends t p c.loop-id.plan l in
    done u c.requires.plan.sound c.args.task.0 c.args.reach c.requires.ends t p c.loop-id.plan (subst G none c.loop-id.invariant.goes)

pub returns-clause-sound : goal.returns-clause-sound
returns-clause-sound c =
    let u = planned c.args.tables.now.tables c.args.plan.now in
    let P : TablesOf → Type 0 = λ v. IsSound v in
    subst P (sym (returns-clause-reaches c).to) (all_sound u c.requires.plan.sound c.args.task.0 c.args.reach c.requires.ends)

use Rattle.std.proofs.Common.{◌≤◌, refl, sym, subst, arith}
use Rattle.ht_base.specs.Moment.{last_moment}
use Rattle.ht_tree.specs.Plans.{committed}
use Rattle.ht_tree.specs.Soundness.{IsSound}
use Rattle.ht_tree.specs.Tables.{TablesOf}
use Rattle.ht_tree.proofs.PublicLaws.{committed_sound}
use Rattle.ht_tree_tests.proofs.tables.created.Goals as goal

pub commit-requires-clause-sound : goal.commit-requires-clause-sound
commit-requires-clause-sound g c =
    let t = c.args.tables.now.tables in
    let plan = c.planned.new.plan in
    let at = c.last-at.result.0 in
    let S : TablesOf → Type 0 = λ s. IsSound s in
    let C : TablesOf → Type 0 = λ s. IsSound (committed s plan at) in
    let sound = subst S c.prepare.ensures.tables c.last-at.ensures.sound in
    let within = c.last-at.ensures.sound.last_within in
    let last = c.last-at.ensures.value in
    let early : at ≤ last_moment = omega arith in
    subst C (sym c.prepare.ensures.tables) (committed_sound t c.in_ok-plan.plan plan at c.in_ok-plan.ensures sound early (c.in_ok-task.ensures.sound refl))

use Rattle.std.proofs.Common.{◌≤◌, sym, subst, arith}
use Rattle.ht_base.specs.Moment.{last_moment}
use Rattle.ht_tree.specs.Soundness.{IsSound}
use Rattle.ht_tree.specs.Tables.{TablesOf}
use Rattle.ht_tree.proofs.PublicLaws.{planned_nothing}
use Rattle.ht_tree_tests.proofs.dues.planned_waiting.Goals as goal

pub returns-clause-sound : goal.returns-clause-sound
returns-clause-sound g c =
    let S : TablesOf → Type 0 = λ s. IsSound s in
    let sound = c.last-at.ensures.sound in
    let within = c.last-at.ensures.sound.last_within in
    let last = c.last-at.ensures.value in
    let early : c.last-at.result.0 ≤ last_moment = omega arith in
    let due : 5000 ≤ last_moment = omega arith in
    c.in_ok-create.ensures.sound tt early due (subst S (sym (planned_nothing c.args.tables.now.tables c.in_ok-plan.plan c.in_ok-plan.ensures)) sound)

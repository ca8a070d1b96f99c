use Rattle.std.proofs.Common.{◌≡◌, ◌≤◌, Some, sym, subst}
use Rattle.ht_base.specs.Moment.{last_moment}
use Rattle.ht_tree.specs.Tables.{TablesOf}
use Rattle.ht_desk.proofs.Judged.{left_valid}
use Rattle.ht_desk.proofs.Staged.{not_of_a_disk, staged_by}
use Rattle.ht_desk.proofs.staging.stage_change.Goals as goal

pub write-requires : goal.write-requires
write-requires c =
    let left : c.in_ok-plan.field-0.left ≡ Some c.in-Some.record = cc in
    left_valid c.decide.new.tables c.args.event.now c.in_ok-plan.field-0 c.in_ok-plan.ensures.decides c.in-Some.record left c.requires
    (subst (λ (t : TablesOf). t.last ≤ last_moment) (sym c.in_ok-plan.ensures.tables) c.last.ensures.sound.last_within)

pub returns-clause-staged : goal.returns-clause-staged
returns-clause-staged c =
    let left : c.in_ok-plan.field-0.left ≡ Some c.in-Some.record = cc in
    staged_by c.decide.new.tables c.args.event.now c.in_ok-plan.field-0 c.in_ok-plan.ensures.decides c.in-Some.record left c.in_ok-body.body c.in_ok-body.ensures c.moment_behind-at.result c.moment_behind-at.ensures c.is_asking-asked.result c.is_asking-asked.ensures

pub returns-in_default-clause-not_store : goal.returns-in_default-clause-not_store
returns-in_default-clause-not_store c =
    let w = c.in_ok-plan.ensures.decides in
    not_of_a_disk c.decide.new.tables.tables c.args.event.now c.in_ok-plan.field-0.left c.in_ok-plan.field-0.reply w.after w.decides

pub returns-clause-not_store : goal.returns-clause-not_store
returns-clause-not_store c =
    let w = c.in_ok-plan.ensures.decides in
    not_of_a_disk c.decide.new.tables.tables c.args.event.now c.in_ok-plan.field-0.left c.in_ok-plan.field-0.reply w.after w.decides

use Rattle.std.proofs.Common.{sym, subst}
use Rattle.ht_base.specs.declared.event.Command.{Command}
use Rattle.ht_base.specs.Events.{op_of}
use Rattle.ht_machine.specs.Commands.{DoesOn, HasEffect}
use Rattle.ht_machine.specs.Planning.{Tries}
use Rattle.ht_machine.proofs.Commanded.{does_plain, gathered_then, still_allowed, tries_as}
use Rattle.ht_machine.proofs.commanding.do_on.Goals as goal
use Rattle.ht_owner.specs.Acting.{IsAllowed}
use Rattle.ht_tree.specs.Plans.{planned}
use Rattle.ht_tree.specs.Tables.{TablesOf}

pub act_then_follow-requires-clause-allowed : goal.act_then_follow-requires-clause-allowed
act_then_follow-requires-clause-allowed c =
    let u = planned c.args.tables.now.tables c.args.plan.now in
    let g = c.in_ok-gather-in-Complete.ensures.gathers in
    let A : TablesOf → Type 0 = λ v. IsAllowed v (op_of c.args.command.now) c.args.caller c.args.task.0 in
    subst A (sym (g.goes).to) (still_allowed u g.after (op_of c.args.command.now) c.args.caller c.args.task.0 c.requires.plan.sound c.requires.allowed g.gathers)

pub returns-in_ok-gather-in-Complete : goal.returns-in_ok-gather-in-Complete
returns-in_ok-gather-in-Complete c =
    let t = c.args.tables.now.tables in
    let H : Command → Type 0 = λ k. Tries t c.gather.new.plan c.act_then_follow.new.plan (HasEffect (planned t c.gather.new.plan) c.args.caller c.args.at.0 c.args.task.0 k) c.act_then_follow.result in
    let D : Command → Type 0 = λ k. Tries t c.args.plan.now c.act_then_follow.new.plan (DoesOn (planned t c.args.plan.now) c.args.caller c.args.at.0 c.args.task.0 k) c.act_then_follow.result in
    subst D (sym c.in-Complete.is) (gathered_then t c.args.plan.now c.gather.new.plan c.act_then_follow.new.plan c.args.caller c.args.at c.args.task c.in-Complete.output c.act_then_follow.result c.in_ok-gather-in-Complete.ensures.gathers (subst H c.in-Complete.is c.act_then_follow.ensures))

pub returns-in_default : goal.returns-in_default
returns-in_default c =
    let t = c.args.tables.now.tables in
    let u = planned t c.args.plan.now in
    tries_as t c.args.plan.now c.act_then_follow-in_default.new.plan (HasEffect u c.args.caller c.args.at.0 c.args.task.0 c.args.command.now) (DoesOn u c.args.caller c.args.at.0 c.args.task.0 c.args.command.now) c.act_then_follow-in_default.result
    (λ o. does_plain u c.args.caller c.args.at.0 c.args.task.0 c.args.command.now o c.in_default.not-InstantiateSubTask c.in_default.not-Complete) c.act_then_follow-in_default.ensures

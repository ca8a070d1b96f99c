use Rattle.ht_base.specs.Events.{op_of}
use Rattle.ht_machine.specs.Commands.{ActsOn, DoesOn}
use Rattle.ht_machine.proofs.Commanded.{behind_gate, passed, tries_as}
use Rattle.ht_machine.proofs.commanding.act_on.Goals as goal
use Rattle.ht_tree.specs.Plans.{planned}

pub do_on-requires-clause-allowed : goal.do_on-requires-clause-allowed
do_on-requires-clause-allowed c = passed (planned c.args.tables.now.tables c.args.plan.now) c.op.result (op_of c.args.command.now) c.args.caller c.args.task.0 c.refusal_at_gate.result c.in_default.not-Some c.op.ensures c.refusal_at_gate.ensures

pub returns : goal.returns
returns c =
    let t = c.args.tables.now.tables in
    let u = planned t c.args.plan.now in
    let command = c.args.command.now in
    let allowed = passed u c.op.result (op_of command) c.args.caller c.args.task.0 c.refusal_at_gate.result c.in_default.not-Some c.op.ensures c.refusal_at_gate.ensures in
    tries_as t c.args.plan.now c.do_on.new.plan (DoesOn u c.args.caller c.args.at.0 c.args.task.0 command) (ActsOn u c.args.caller c.args.at.0 c.args.task.0 command) c.do_on.result (λ o. behind_gate u c.args.caller c.args.at.0 c.args.task.0 command o allowed) c.do_on.ensures

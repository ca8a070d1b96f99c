use Rattle.std.proofs.Common.{Option, sym, subst}
use Rattle.ht_base.specs.declared.event.Command.{Command}
use Rattle.ht_base.specs.declared.moment.Moment.{Moment}
use Rattle.ht_machine.specs.Commands.{Comes, Creates}
use Rattle.ht_machine.specs.Planning.{Tries}
use Rattle.ht_machine.proofs.commanding.command.Goals as goal
use Rattle.ht_tree.specs.Plans.{planned}

pub returns-in-Create : goal.returns-in-Create
returns-in-Create c =
    let t = c.args.tables.now.tables in
    let old = c.args.plan.now in
    let new = c.create.new.plan in
    let u = planned t old in
    let W : Option Moment → Type 0 = λ waits. Tries t old new (Creates u c.args.caller c.args.at.0 c.in-Create.model c.in-Create.input waits) c.create.result in
    let T : Command → Type 0 = λ command. Tries t old new (Comes u c.args.caller c.args.at.0 c.args.task.0 command) c.create.result in
    subst T (sym c.in-Create.is) (subst W c.waits_until-waits.ensures c.create.ensures)

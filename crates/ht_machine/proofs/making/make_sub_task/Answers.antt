use Rattle.ht_machine.proofs.MadeByHand.{made_by_hand, to_make}
use Rattle.ht_machine.proofs.making.make_sub_task.Goals as goal
use Rattle.ht_tree.specs.Plans.{planned}

pub instantiate-requires-clause-entry : goal.instantiate-requires-clause-entry
instantiate-requires-clause-entry c = to_make (planned c.args.tables.now.tables c.args.plan.now) c.args.caller c.args.task.0 c.args.sub c.in_ok-entry.field-0 c.in-Some.entry c.requires.allowed c.in_ok-entry.ensures c.in-Some.is

pub returns : goal.returns
returns c = made_by_hand c.args.tables.now.tables c.args.plan.now c.instantiate.new.plan c.args.at c.args.task c.args.sub c.in_ok-entry.field-0 c.in-Some.entry c.in_ok-new.new c.in_ok-entry.ensures c.in-Some.is c.in_ok-new.ensures.id c.in_ok-new.ensures.made c.in_ok-new.ensures.runs

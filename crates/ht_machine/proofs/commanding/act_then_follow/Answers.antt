use Rattle.ht_machine.proofs.Commanded.{act_tries, followed_after, sound_acted, task_acted}
use Rattle.ht_machine.proofs.commanding.act_then_follow.Goals as goal

pub returns-in-Err : goal.returns-in-Err
returns-in-Err c = act_tries c.args.tables.now.tables c.args.plan.now c.act.new.plan c.args.caller c.args.at c.args.task c.args.command.now c.in-Err.refusal c.in-Err.ensures

pub follow-requires-clause-plan : goal.follow-requires-clause-plan
follow-requires-clause-plan c = record {
  fits = c.in-Ok.ensures.goes.fits;
  sound = sound_acted c.args.tables.now.tables c.args.plan.now c.act.new.plan c.args.caller c.args.at c.args.task c.args.command.now c.in-Ok.next c.requires.plan.sound c.in-Ok.ensures;
}

pub follow-requires-clause-there : goal.follow-requires-clause-there
follow-requires-clause-there c = task_acted c.args.tables.now.tables c.args.plan.now c.act.new.plan c.args.caller c.args.at c.args.task c.args.command.now c.in-Ok.next c.requires.plan.sound c.in-Ok.ensures

pub follow-requires-clause-ends : goal.follow-requires-clause-ends
follow-requires-clause-ends c = c.in-Ok.ensures.ends

pub returns-in_ok-follow-in-Ok : goal.returns-in_ok-follow-in-Ok
returns-in_ok-follow-in-Ok c = followed_after c.args.tables.now.tables c.args.plan.now c.act.new.plan c.follow.new.plan c.args.caller c.args.at c.args.task c.args.command.now c.in-Ok.next c.in-Ok.ensures c.in_ok-follow-in-Ok.ensures

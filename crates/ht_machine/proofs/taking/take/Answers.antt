use Rattle.std.proofs.Common.{arith}
use Rattle.ht_escalate.proofs.PublicLaws.{open_of_due}
use Rattle.ht_machine.proofs.Taken.{suspended_of}
use Rattle.ht_machine.proofs.taking.take.Goals as goal
use Rattle.ht_tree.specs.Plans.{planned}

pub resume-requires-clause-suspended : goal.resume-requires-clause-suspended
resume-requires-clause-suspended c = suspended_of (planned c.args.tables.now.tables c.args.plan.now) c.args.due c.requires.plan.sound c.requires.due c.if-due-eq1.true

pub deadline-requires-clause-open : goal.deadline-requires-clause-open
deadline-requires-clause-open c =
    let no_activation = c.if-due-eq0.false in
    let no_resumption = c.if-due-eq1.false in
    open_of_due (planned c.args.tables.now.tables c.args.plan.now) c.args.due c.requires.plan.sound c.requires.due (omega (arith, no_activation, no_resumption))

use Rattle.std.proofs.Common.{◌∙◌, arith}
use Rattle.ht_machine.proofs.UnderWay.{goes_further, one_more, sets_out, told, turns_then}
use Rattle.ht_machine.proofs.turning.take_all.Goals as goal

pub loop-init : goal.loop-init
loop-init c = record {
  way = sets_out c.args.tables.now.tables c.args.plan.now c.args.at.0 c.in_ok-course.course.taken c.requires.plan.fits c.requires.plan.sound c.in_ok-course.ensures.none;
  course = c.in_ok-course.ensures.course;
  count = let none = c.in_ok-course.ensures.none in omega (arith, none);
}

pub goes_on-requires-clause-plan : goal.goes_on-requires-clause-plan
goes_on-requires-clause-plan c = record { fits = c.loop.invariant.way.goes.fits; sound = c.loop.invariant.way.sound }

pub goes_on-requires-clause-course : goal.goes_on-requires-clause-course
goes_on-requires-clause-course c = c.loop.invariant.course

pub goes_on-requires-clause-room : goal.goes_on-requires-clause-room
goes_on-requires-clause-room c = let few = c.loop.invariant.count in let more = c.loop-test.true in omega (arith, few, more)

pub returns-in_err-goes_on-clause-marked : goal.returns-in_err-goes_on-clause-marked
returns-in_err-goes_on-clause-marked c = told c.from_residual-in_err-goes_on.result (c.in_err-goes_on.ensures.marked ∙ c.loop.invariant.way.goes.marked)

pub returns-then-branch-clause-turns : goal.returns-then-branch-clause-turns
returns-then-branch-clause-turns c =
    let way = goes_further c.args.tables.now.tables c.args.plan.now c.loop.plan c.goes_on.new.plan c.args.at.0 c.loop.course.taken c.goes_on.new.self.taken c.loop.invariant.way c.in_ok-goes_on.ensures.on in
    turns_then c.args.tables.now.tables c.args.plan.now c.goes_on.new.plan c.args.at.0 c.goes_on.new.self.taken way (c.in_ok-goes_on.ensures.over c.if-branch.true)

pub loop-preserved : goal.loop-preserved
loop-preserved c = record {
  way = goes_further c.args.tables.now.tables c.args.plan.now c.loop.plan c.goes_on.new.plan c.args.at.0 c.loop.course.taken c.goes_on.new.self.taken c.loop.invariant.way c.in_ok-goes_on.ensures.on;
  course = c.in_ok-goes_on.ensures.course;
  count =
      let more = one_more c.args.tables.now.tables c.loop.plan c.goes_on.new.plan c.args.at.0 c.loop.course.taken c.goes_on.new.self.taken c.in_ok-goes_on.ensures.on in
      let few = c.loop.invariant.count in
      omega (arith, more, few);
}

pub returns-clause-marked : goal.returns-clause-marked
returns-clause-marked c = c.loop.invariant.way.goes.marked

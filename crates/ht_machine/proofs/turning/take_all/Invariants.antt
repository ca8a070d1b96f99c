use Rattle.std.proofs.Common.{◌≤◌}
use Rattle.ht_machine.specs.Courses.{IsOnCourse, IsUnderWay}
use Rattle.ht_machine.proofs.turning.take_all.Given as goal
use Rattle.ht_tree.specs.Plans.{planned}
use Rattle.ht_tree.specs.RowDues.{all_dues}

abbrev pub invariant-loop : goal.invariant-loop
invariant-loop l = record {
  way : IsUnderWay (l.tables).tables (l.fn).plan l.plan l.at.0 (l.course).taken;
  course : IsOnCourse (all_dues (l.tables).tables) (planned (l.tables).tables l.plan) ((l.course).news).dues (l.course).passed;
  count : (l.course).taken ≤ l.counter;
}

use Rattle.ht_tree.specs.Plans.{IsPlanOf}
use Rattle.ht_tree_tests.proofs.tables.prioritised.Given as goal

abbrev pub invariant-loop-task : goal.invariant-loop-task
invariant-loop-task l = IsPlanOf l.tables.tables l.plan

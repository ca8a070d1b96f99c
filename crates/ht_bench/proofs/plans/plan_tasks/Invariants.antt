use Rattle.ht_tree.specs.Plans.{IsPlanOf}
use Rattle.ht_bench.proofs.plans.plan_tasks.Given as goal

abbrev pub invariant-loop : goal.invariant-loop
invariant-loop l = IsPlanOf l.tables.tables l.plan

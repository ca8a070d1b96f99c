use Rattle.ht_tree.specs.Plans.{IsPlanOf}
use Rattle.ht_bench.proofs.plans.put_again.Given as goal

abbrev pub invariant-loop-place : goal.invariant-loop-place
invariant-loop-place l = IsPlanOf l.tables.tables l.plan

use Rattle.std.proofs.Common.{◌≡◌, map, take}
use Rattle.ht_tree.specs.Families.{sub_tasks}
use Rattle.ht_tree.specs.Plans.{planned}
use Rattle.ht_tree.proofs.family.sub_tasks.Given as goal

-- what was found is the sub tasks among the rows up to here
abbrev pub invariant-loop-before : goal.invariant-loop-before
invariant-loop-before l = l.found.items ≡ map (λ r. r.task) (sub_tasks l.task.0 (take l.before (planned l.tables.tables l.plan).rows))

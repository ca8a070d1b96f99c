use Rattle.std.proofs.Common.{◌≡◌, map, take}
use Rattle.ht_tree.specs.Families.{sub_tasks}
use Rattle.ht_tree.specs.Plans.{planned}
use Rattle.ht_tree.proofs.assigning.subs_of.Given as goal

abbrev pub invariant-loop-id : goal.invariant-loop-id
invariant-loop-id l = l.subs ≡ map (λ s. (s.state, s.output)) (take l.id-index (sub_tasks l.fn.task.0 (planned l.tables.tables l.plan).rows))

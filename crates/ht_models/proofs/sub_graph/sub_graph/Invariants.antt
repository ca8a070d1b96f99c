use Rattle.std.proofs.Common.{◌≡◌, map, take}
use Rattle.ht_models.specs.SubTrees.{below, names_of}
use Rattle.ht_models.proofs.sub_graph.sub_graph.Given as goal

abbrev pub invariant-loop-entry : goal.invariant-loop-entry
invariant-loop-entry l = l.next.items ≡ map (below (names_of l.entries)) (take l.entry-index l.entries)

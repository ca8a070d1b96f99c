use Rattle.std.proofs.Common.{◌+◌, length}
use Rattle.ht_graph.specs.Walking.{unmet}
use Rattle.ht_graph.proofs.Reaching.{Walks}
use Rattle.ht_graph.proofs.walking.reached_from.Given as goal

abbrev pub invariant-loop-place : goal.invariant-loop-place
invariant-loop-place g l = Walks (g.G.Graph.count l.graph) (g.G.Graph.next l.graph) l.from l.met.items l.pending.items

abbrev pub decreases-loop-place : goal.decreases-loop-place
decreases-loop-place g l = unmet l.met.items + length l.pending.items

use Rattle.std.proofs.Common.{◌≡◌}
use Rattle.ht_graph.proofs.Chains.{chains_of}
use Rattle.ht_graph.proofs.depth.is_deeper.Given as goal

abbrev pub invariant-loop : goal.invariant-loop
invariant-loop g l = l.long.items ≡ chains_of (g.G.Graph.next l.graph) (g.G.Graph.count l.graph) l.counter

use Rattle.std.proofs.Common.{◌<◌, ℕ}
use Rattle.ht_graph.specs.Graphs.{IsInCycle}
use Rattle.ht_graph.proofs.cycles.first_cycle.Given as goal

abbrev pub invariant-loop-place : goal.invariant-loop-place
invariant-loop-place g l = (p : ℕ) → p < l.place → IsInCycle (g.G.Graph.next l.graph) p → ⊥

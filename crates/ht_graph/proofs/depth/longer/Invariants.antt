use Rattle.std.proofs.Common.{◌≡◌, false, map}
use Rattle.std.specs.List.{list_any, range_with_len}
use Rattle.std.specs.Prelude.{slice_index_or}
use Rattle.ht_graph.proofs.depth.longer.Given as goal

abbrev pub invariant-loop-place : goal.invariant-loop-place
invariant-loop-place g l = l.next.items ≡ map (λ place. list_any (λ to. slice_index_or l.long to false) (g.G.Graph.next l.graph place)) (range_with_len 0 l.place)

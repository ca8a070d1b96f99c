use Rattle.std.proofs.Common.{◌≡◌, drop, false}
use Rattle.std.specs.List.{list_any}
use Rattle.std.specs.Prelude.{slice_index_or}
use Rattle.ht_graph.proofs.depth.is_any.Given as goal

abbrev pub invariant-loop-place : goal.invariant-loop-place
invariant-loop-place l = list_any (λ place. slice_index_or l.long place false) l.places ≡ list_any (λ place. slice_index_or l.long place false) (drop l.place-index l.places)

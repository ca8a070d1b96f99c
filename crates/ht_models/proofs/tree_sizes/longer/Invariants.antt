use Rattle.std.proofs.Common.{◌≡◌, map, slice_index_or}
use Rattle.std.specs.List.{range_with_len, sum_by}
use Rattle.ht_models.specs.SubTrees.{places_at, up_to_enough}
use Rattle.ht_models.proofs.tree_sizes.longer.Given as goal

abbrev pub invariant-loop-place : goal.invariant-loop-place
invariant-loop-place l = l.next.items ≡ map (λ place. up_to_enough (sum_by (λ to. slice_index_or l.counts to 0) (places_at l.graph place))) (range_with_len 0 l.place)

use Rattle.std.proofs.Common.{◌≡◌, ◌+◌, map, slice_index_or}
use Rattle.std.specs.List.{range_with_len}
use Rattle.ht_models.specs.SubTrees.{up_to_enough}
use Rattle.ht_models.proofs.tree_sizes.sums.Given as goal

abbrev pub invariant-loop-place : goal.invariant-loop-place
invariant-loop-place l = l.sums.items ≡ map (λ place. up_to_enough (slice_index_or l.counts place 0 + slice_index_or l.more place 0)) (range_with_len 0 l.place)

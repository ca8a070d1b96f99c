use Rattle.std.proofs.Common.{◌≡◌, length, map}
use Rattle.std.specs.List.{range_with_len}
use Rattle.ht_models.specs.SubTrees.{places_at, up_to_enough}
use Rattle.ht_models.proofs.tree_sizes.subs.Given as goal

abbrev pub invariant-loop-place : goal.invariant-loop-place
invariant-loop-place l = l.subs.items ≡ map (λ place. up_to_enough (length (places_at l.graph place))) (range_with_len 0 l.place)

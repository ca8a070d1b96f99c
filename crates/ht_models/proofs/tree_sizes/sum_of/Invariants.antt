use Rattle.std.proofs.Common.{◌≡◌, slice_index_or, take}
use Rattle.std.specs.List.{sum_by}
use Rattle.ht_models.specs.SubTrees.{up_to_enough}
use Rattle.ht_models.proofs.tree_sizes.sum_of.Given as goal

abbrev pub invariant-loop-place : goal.invariant-loop-place
invariant-loop-place l = l.sum ≡ up_to_enough (sum_by (λ to. slice_index_or l.counts to 0) (take l.place-index l.places))

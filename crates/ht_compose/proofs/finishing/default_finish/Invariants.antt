use Rattle.std.proofs.Common.{◌≡◌, drop, map}
use Rattle.ht_compose.specs.Finishes.{default}
use Rattle.ht_compose.proofs.finishing.default_finish.Given as goal
use Rattle.ht_models.specs.Shown.{finish_of}

abbrev pub invariant-loop-finish : goal.invariant-loop-finish
invariant-loop-finish l = default (map finish_of l.model.finishes.items) ≡ default (map finish_of (drop l.finish-index l.model.finishes.items))

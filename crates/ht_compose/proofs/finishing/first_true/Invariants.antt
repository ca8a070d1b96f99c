use Rattle.std.proofs.Common.{◌≡◌, drop, map}
use Rattle.std.specs.Prelude.{find}
use Rattle.ht_compose.specs.Finishes.{applies}
use Rattle.ht_compose.proofs.finishing.first_true.Given as goal
use Rattle.ht_models.specs.Kinded.{parts_of}
use Rattle.ht_models.specs.Shown.{finish_of}

abbrev pub invariant-loop-finish : goal.invariant-loop-finish
invariant-loop-finish l =
    find (applies (parts_of l.model.input.items l.model.output.items) l.env) (map finish_of l.model.finishes.items)
    ≡ find (applies (parts_of l.model.input.items l.model.output.items) l.env) (map finish_of (drop l.finish-index l.model.finishes.items))

use Rattle.ht_models.specs.Repeats.{repeats_name}
use Rattle.ht_models.proofs.FirstOnes.{NoneBefore}
use Rattle.ht_models.proofs.index.first_that_repeats.Given as goal

abbrev pub invariant-loop-place : goal.invariant-loop-place
invariant-loop-place l = NoneBefore repeats_name l.entries l.place

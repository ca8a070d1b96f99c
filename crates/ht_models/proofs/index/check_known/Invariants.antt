use Rattle.ht_models.specs.SubTrees.{names_unknown_model}
use Rattle.ht_models.proofs.FirstOnes.{NoneBefore}
use Rattle.ht_models.proofs.index.check_known.Given as goal

abbrev pub invariant-loop-place : goal.invariant-loop-place
invariant-loop-place l = NoneBefore (names_unknown_model l.entries) l.entries l.place

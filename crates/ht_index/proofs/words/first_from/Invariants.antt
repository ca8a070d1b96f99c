use Rattle.ht_index.proofs.FirstBits.{NoneUpTo}
use Rattle.ht_index.proofs.words.first_from.Given as goal

abbrev pub invariant-loop-place : goal.invariant-loop-place
invariant-loop-place l = NoneUpTo l.from l.words l.place

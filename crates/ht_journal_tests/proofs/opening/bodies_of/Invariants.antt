use Rattle.std.proofs.Common.{List, ℕ}
use Rattle.ht_journal.specs.Keeping.{IsKept}
use Rattle.ht_journal_tests.proofs.opening.bodies_of.Given as goal

abbrev pub invariant-loop-n : goal.invariant-loop-n
invariant-loop-n g l = (bodies : List (List ℕ)) × IsKept g.D.Disk bodies l.journal l.disk

use Rattle.std.proofs.Common.{◌≡◌, List, ℕ}
use Rattle.ht_journal.specs.Keeping.{IsKept}
use Rattle.ht_journal_tests.proofs.appending.found.Given as goal

abbrev pub invariant-loop-n : goal.invariant-loop-n
invariant-loop-n g l = record {
  counted : l.journal.count ≡ l.n-end;
  kept : (bodies : List (List ℕ)) × IsKept g.D.Disk bodies l.journal l.disk;
}

use Rattle.std.proofs.Common.{◌≡◌, ◌≤◌, ◌+◌, ◌-◌, ◌*◌, ℕ, List}
use Rattle.ht_journal.specs.Keeping.{IsKept}
use Rattle.ht_journal.specs.Quiet.{IsQuiet}
use Rattle.ht_journal.specs.declared.limits.TheConstants.{LONGEST_BODY}
use Rattle.ht_desk.proofs.Replayed.{IsReplayed}
use Rattle.ht_desk.proofs.opening.replay.Given as goal

abbrev pub invariant-records : goal.invariant-records
invariant-records g l = record {
  number : (1 ≤ l.n) × (l.n ≤ l.journal.count);
  short : l.length ≤ 9 + l.n * (LONGEST_BODY + 5);
  same : (l.journal.count ≡ l.fn.journal.count) × (l.journal.length ≡ l.fn.journal.length) × (l.journal.limit ≡ l.fn.journal.limit) × (l.journal.doubt ≡ l.fn.journal.doubt);
  kept : (bodies : List (List ℕ)) → IsKept g.D.Disk bodies l.fn.journal l.fn.disk → IsKept g.D.Disk bodies l.journal l.disk;
  so_far : IsReplayed (record { models = l.fn.models; people = l.fn.people }) l.n l.length (g.D.Disk.gives l.fn.disk) (λ bodies. IsKept g.D.Disk bodies l.fn.journal l.fn.disk) (l.tables).tables;
  quiet : IsQuiet g.D.Disk l.fn.disk l.disk;
  still : g.D.Disk.faults l.disk ≡ g.D.Disk.faults l.fn.disk;
}

abbrev pub decreases-records : goal.decreases-records
decreases-records g l = l.journal.count - l.n

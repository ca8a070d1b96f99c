use Rattle.std.proofs.Common.{◌≡◌, ◌-◌, ◌≤◌, List, ℕ, length, IfSome}
use Rattle.ht_journal.specs.Bodies.{HasFront}
use Rattle.ht_journal.specs.Files.{Fit, front}
use Rattle.ht_journal.specs.Pieces.{IsPiece, IsRead}
use Rattle.ht_journal.specs.Quiet.{IsQuiet}
use Rattle.ht_journal.proofs.walking.pass.Given as goal

abbrev pub invariant-gates : goal.invariant-gates
invariant-gates g l = record {
  quiet : IsQuiet g.D.Disk l.fn.disk l.disk;
  shown : g.D.Disk.shown l.disk ≡ g.D.Disk.shown l.fn.disk;
  faults : g.D.Disk.faults l.disk ≡ g.D.Disk.faults l.fn.disk;
  piece : IfSome (g.D.Disk.gives l.fn.disk) (IsPiece l.reader);
  passed : l.reader.passed ≤ l.wanted;
  within : l.reader.gate ≤ l.end;
  read : (bodies : List (List ℕ)) → Fit bodies → l.end ≡ length (front bodies) → l.wanted ≤ length bodies → IfSome (g.D.Disk.gives l.fn.disk) (HasFront bodies)
      → IfSome (g.D.Disk.gives l.fn.disk) (IsRead bodies l.fn.reader) → IfSome (g.D.Disk.gives l.fn.disk) (IsRead bodies l.reader);
}

abbrev pub decreases-gates : goal.decreases-gates
decreases-gates g l = l.wanted - l.reader.passed

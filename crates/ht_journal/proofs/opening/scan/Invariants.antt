use Rattle.std.proofs.Common.{◌≡◌, ◌-◌, ◌<◌, IfSome}
use Rattle.ht_journal.specs.Opening.{IsScanned}
use Rattle.ht_journal.specs.Quiet.{IsQuiet}
use Rattle.ht_journal.specs.Pieces.{IsPiece}
use Rattle.ht_journal.proofs.opening.scan.Given as goal

abbrev pub invariant-frames : goal.invariant-frames
invariant-frames g l = record {
  quiet : IsQuiet g.D.Disk l.fn.disk l.disk;
  shown : g.D.Disk.shown l.disk ≡ g.D.Disk.shown l.fn.disk;
  faults : g.D.Disk.faults l.disk ≡ g.D.Disk.faults l.fn.disk;
  piece : IfSome (g.D.Disk.gives l.fn.disk) (IsPiece l.reader);
  passed : (l.reader.gate ≡ l.fn.reader.gate) × (l.reader.passed ≡ l.fn.reader.passed);
  range : l.gate < l.end;
  scanned : IsScanned (g.D.Disk.gives l.fn.disk) l.gate l.count;
}

abbrev pub decreases-frames : goal.decreases-frames
decreases-frames g l = l.end - l.gate

use Rattle.std.proofs.Common.{◌+◌, ◌∙◌, ap, arith}
use Rattle.ht_journal.specs.Pieces.{IsPiece}
use Rattle.ht_journal.specs.Bodies.{IsBehind}
use Rattle.ht_journal.proofs.Moments.{told_same}
use Rattle.ht_journal.proofs.Nth.{told_step}
use Rattle.ht_journal.proofs.Quiet.{quiet_on}
use Rattle.ht_journal.proofs.walking.pass.Goals as goal

pub gates-preserved : goal.gates-preserved
gates-preserved g c =
    let o = g.D.Disk.gives c.args.disk.now in
    let before = g.D.Disk.gives c.gates.disk in
    let i = c.gates.invariant in
    let e = c.frame_behind.ensures in
    let w = c.in_ok-at.ensures.within in
    let piece = told_same o before (IsPiece c.frame_behind.new.reader) i.quiet.file e.piece in
    let behind = told_same o before (IsBehind c.gates.reader.gate c.args.end c.in_ok-at.at c.in_ok-at.n) i.quiet.file c.in_ok-at.ensures.behind in
    record {
      quiet = quiet_on g.D.Disk c.args.disk.now c.gates.disk c.frame_behind.new.disk i.quiet e.quiet;
      shown = e.shown ∙ i.shown;
      faults = c.in_ok-at.ensures.still ∙ i.faults;
      piece = piece;
      passed = omega (arith, e.gate.1);
      within = omega (arith, w.0, c.from.ensures);
      read = λ bodies fit place enough has read.
          told_step o bodies c.gates.reader _ c.args.end c.in_ok-at.at c.in_ok-at.n fit place (omega arith) has (i.read bodies fit place enough has read) behind piece (ap (λ k. c.in_ok-at.at + k) c.from.ensures) (ap (λ k. k + 1) e.gate.1);
    }

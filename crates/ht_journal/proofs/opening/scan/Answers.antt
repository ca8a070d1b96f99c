use Rattle.std.proofs.Common.{◌≡◌, ◌+◌, ◌<◌, ◌≤◌, ℕ, drop, Err, Some, Option, IfSome, ◌∙◌, sym, subst, arith}
use Rattle.std.proofs.lemmas.Result.{err_from_is_err_and}
use Rattle.ht_journal.specs.declared.limits.TheConstants.{LONGEST_BODY}
use Rattle.ht_journal.specs.Files.{bodies_from, contents}
use Rattle.ht_journal.specs.Opening.{StandsAt, IsScanned}
use Rattle.ht_journal.specs.Pieces.{IsPiece}
use Rattle.ht_journal.proofs.Frames.{count_front}
use Rattle.ht_journal.proofs.Moments.{told_same}
use Rattle.ht_journal.proofs.Quiet.{quiet_on}
use Rattle.ht_journal.proofs.Scans.{scan_on, scan_fault, fault_on, at_fault}
use Rattle.ht_journal.proofs.opening.scan.Goals as goal

pub returns-in_err-n-clause-fault : goal.returns-in_err-n-clause-fault
returns-in_err-n-clause-fault g c =
    let o = g.D.Disk.gives c.args.disk.now in
    let gate = c.frames.gate in
    let s = c.frames.invariant.scanned in
    let p = err_from_is_err_and c.from_residual.result c.from_residual.ensures.1 in
    let on : (at : ℕ) → (at ≡ gate) × IfSome (g.D.Disk.gives c.frames.disk) (λ f. bodies_from gate 0 (drop gate f) ≡ Err gate) → IfSome o (λ f. contents f ≡ Err at) = λ at h.
    let told = told_same o (g.D.Disk.gives c.frames.disk) (λ f. bodies_from gate 0 (drop gate f) ≡ Err gate) c.frames.invariant.quiet.file h.1 in
    subst (λ k. IfSome o (λ f. contents f ≡ Err k)) (sym h.0) (scan_fault o gate c.frames.count c.args.end s c.frames.invariant.range c.requires.range.0 c.requires.told told) in
    at_fault c.from_residual.result c.in_err-n.field-0.0 (λ at. IfSome o (λ f. contents f ≡ Err at)) _ _ p (fault_on c.in_err-n.field-0.0 _ _ _ _ _ c.frames.invariant.faults on c.in_err-n.ensures.fault)

pub overflow_add-count : goal.overflow_add-count
overflow_add-count g c = let s = c.frames.invariant.scanned in omega (arith, s.counted, s.place, count_front s.bodies, c.frames.invariant.range, c.requires.range.1)

pub frames-preserved : goal.frames-preserved
frames-preserved g c =
    let o = g.D.Disk.gives c.args.disk.now in
    let i = c.frames.invariant in
    let n = c.in-Some.n in
    let whole = subst (λ (found : Option ℕ). IfSome found (λ n. (n ≤ LONGEST_BODY) × (c.frames.gate + 5 + n < c.args.end))) c.in-Some.is c.in_ok-n.ensures.whole in
    let stands = subst (λ (found : Option ℕ). IfSome (g.D.Disk.gives c.frames.disk) (λ f. StandsAt c.frames.gate f found)) c.in-Some.is c.in_ok-n.ensures.stands in
    let told = told_same o (g.D.Disk.gives c.frames.disk) (λ f. StandsAt c.frames.gate f (Some n)) i.quiet.file stands in
    record {
      quiet = quiet_on g.D.Disk c.args.disk.now c.frames.disk c.frame_at.new.disk i.quiet c.frame_at.ensures.quiet;
      shown = c.frame_at.ensures.shown ∙ i.shown;
      faults = c.in_ok-n.ensures.still ∙ i.faults;
      piece = told_same o (g.D.Disk.gives c.frames.disk) (IsPiece c.frame_at.new.reader) i.quiet.file c.frame_at.ensures.piece;
      passed = (c.frame_at.ensures.gate.0 ∙ i.passed.0, c.frame_at.ensures.gate.1 ∙ i.passed.1);
      range = omega (arith, whole.1, c.from.ensures);
      scanned = subst (λ k. IsScanned o (c.frames.gate + (5 + k)) (c.frames.count + 1)) (sym c.from.ensures) (scan_on o c.frames.gate c.frames.count n c.args.end i.scanned whole.0 whole.1 c.requires.range.1 c.requires.told told);
    }

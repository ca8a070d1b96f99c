use Rattle.std.proofs.Common.{◌≡◌, ◌<◌, ◌≤◌, ℕ, List, [], length, Ok, Err, Option, IfSome, IsTrue, refl, sym, ◌∙◌, subst, arith}
use Rattle.std.proofs.lemmas.Result.{err_from_is_err_and}
use Rattle.ht_outside.specs.Causes.{Rose}
use Rattle.ht_outside.specs.Disks.{Both}
use Rattle.ht_journal.specs.Files.{contents, Rests}
use Rattle.ht_journal.specs.Openings.{IsTornBeginning}
use Rattle.ht_journal.proofs.Begun.{at_ok, at_store, refused_quiet, still_begun, written_long, written_short}
use Rattle.ht_journal.proofs.Frames.{contents_short, contents_rests}
use Rattle.ht_journal.proofs.Moments.{told_same, told_weaker}
use Rattle.ht_journal.proofs.Quiet.{quiet_on}
use Rattle.ht_journal.proofs.Writes.{images_told}
use Rattle.ht_journal.proofs.Scans.{fit_none, unheaded, ok_both}
use Rattle.ht_journal.proofs.opening.find.Goals as goal

pub returns-then-length-le9-clause-found : goal.returns-then-length-le9-clause-found
returns-then-length-le9-clause-found g c =
    let images = λ (tells : IsTrue (g.D.Disk.tells_images c.begin.new.disk)) (f : List ℕ) (now : g.D.Disk.may_leave c.begin.new.disk f).
    images_told (g.D.Disk.gives c.begin.new.disk) (g.D.Disk.may_leave c.begin.new.disk) (Rests []) (g.met.D.Disk.now_is c.begin.new.disk tells) (c.in_ok-begin.ensures.durable (subst IsTrue c.begin.ensures.tells tells)) c.in_ok-begin.ensures.file f now in
    let short = told_weaker (g.D.Disk.gives c.args.disk.now) _ (λ f. contents f ≡ Ok []) (λ f (is : c.in_ok-length.length ≡ length f). contents_short f (omega arith)) c.in_ok-length.ensures.length.1 in
    ([], refl, refl, fit_none, c.in_ok-begin.ensures.shown, c.in_ok-begin.ensures.file, images, short)

pub returns-then-length-le9-clause-written : goal.returns-then-length-le9-clause-written
returns-then-length-le9-clause-written g c =
    let o = g.D.Disk.gives c.args.disk.now in
    let short = told_weaker o _ (λ f. length f ≤ 9) (λ f (is : c.in_ok-length.length ≡ length f). omega arith) c.in_ok-length.ensures.length.1 in
    written_short o (g.D.Disk.gives c.synced_len.new.disk) (g.D.Disk.gives c.begin.new.disk) c.synced_len.ensures.quiet.file short c.in_ok-begin.ensures.written

pub returns-in_err-length-clause-refused : goal.returns-in_err-length-clause-refused
returns-in_err-length-clause-refused g c =
    let p = err_from_is_err_and c.from_residual.result c.from_residual.ensures.1 in
    at_store g.D.Disk c.args.disk.now c.synced_len.new.disk c.from_residual.result p c.in_err-length.ensures.cause.failed (still_begun g.D.Disk c.args.disk.now c.synced_len.new.disk c.synced_len.ensures.quiet.file)

pub returns-in_err-begin-clause-refused : goal.returns-in_err-begin-clause-refused
returns-in_err-begin-clause-refused g c =
    let p = err_from_is_err_and c.from_residual-in_err-begin.result c.from_residual-in_err-begin.ensures.1 in
    let rose = subst (λ n. Rose n (g.D.Disk.faults c.begin.new.disk)) c.in_ok-length.ensures.still c.in_err-begin.ensures.cause.failed in
    let torn = subst (λ (q : Option (List ℕ)). Both IsTornBeginning q (g.D.Disk.gives c.begin.new.disk)) c.synced_len.ensures.quiet.file c.in_err-begin.ensures.torn in
    at_store g.D.Disk c.args.disk.now c.begin.new.disk c.from_residual-in_err-begin.result p rose torn

pub returns-in_err-is_headed-clause-refused : goal.returns-in_err-is_headed-clause-refused
returns-in_err-is_headed-clause-refused g c =
    let p = err_from_is_err_and c.from_residual-in_err-is_headed.result c.from_residual-in_err-is_headed.ensures.1 in
    let rose = subst (λ n. Rose n (g.D.Disk.faults c.is_headed.new.disk)) c.in_ok-length.ensures.still c.in_err-is_headed.ensures.cause.failed in
    at_store g.D.Disk c.args.disk.now c.is_headed.new.disk c.from_residual-in_err-is_headed.result p rose (still_begun g.D.Disk c.args.disk.now c.is_headed.new.disk (c.is_headed.ensures.quiet.file ∙ c.synced_len.ensures.quiet.file))

pub returns-then-not-branch-clause-refused : goal.returns-then-not-branch-clause-refused
returns-then-not-branch-clause-refused g c =
    let o = g.D.Disk.gives c.args.disk.now in
    let headed = told_same o (g.D.Disk.gives c.synced_len.new.disk) _ c.synced_len.ensures.quiet.file c.in_ok-is_headed.ensures.header in
    let damaged = unheaded o c.in_ok-length.length c.in_ok-is_headed.field-0 c.if-length-le9.false c.in_ok-length.ensures.length.1 headed c.if-not-branch.true in
    let q = quiet_on g.D.Disk c.args.disk.now c.synced_len.new.disk c.is_headed.new.disk c.synced_len.ensures.quiet c.is_headed.ensures.quiet in
    (damaged, q, c.in_ok-is_headed.ensures.still ∙ c.in_ok-length.ensures.still)

pub returns-clause-refused : goal.returns-clause-refused
returns-clause-refused g c =
    let synced = c.synced_len.new.disk in
    let headed = c.is_headed.new.disk in
    let q1 = quiet_on g.D.Disk c.args.disk.now synced headed c.synced_len.ensures.quiet c.is_headed.ensures.quiet in
    let q2 = quiet_on g.D.Disk c.args.disk.now headed c.scan.new.disk q1 c.scan.ensures.quiet in
    refused_quiet g.D.Disk c.args.disk.now headed c.scan.new.disk (λ at. IfSome (g.D.Disk.gives headed) (λ file. contents file ≡ Err at)) c.scan.result q2 (c.in_ok-is_headed.ensures.still ∙ c.in_ok-length.ensures.still)
    (λ at h. told_same (g.D.Disk.gives c.args.disk.now) (g.D.Disk.gives headed) (λ file. contents file ≡ Err at) q1.file h) c.scan.ensures.fault

pub returns-clause-written : goal.returns-clause-written
returns-clause-written g c =
    let o = g.D.Disk.gives c.args.disk.now in
    let long = told_weaker o _ (λ f. 9 < length f) (λ f (is : c.in_ok-length.length ≡ length f). omega arith) c.in_ok-length.ensures.length.1 in
    at_ok c.scan.result (written_long o (g.D.Disk.gives c.scan.new.disk) (c.scan.ensures.quiet.file ∙ c.is_headed.ensures.quiet.file ∙ c.synced_len.ensures.quiet.file) long)

pub returns-clause-found : goal.returns-clause-found
returns-clause-found g c =
    let synced = c.synced_len.new.disk in
    let headed = c.is_headed.new.disk in
    let q = quiet_on g.D.Disk synced headed c.scan.new.disk c.is_headed.ensures.quiet c.scan.ensures.quiet in
    ok_both c.scan.result _ _ _ (λ r p (within : r.0 < c.min.result).
    let bodies = p.0 in
    let told = told_same (g.D.Disk.gives synced) (g.D.Disk.gives headed) (Rests bodies) c.is_headed.ensures.quiet.file p.4 in
    let first = told_same (g.D.Disk.gives c.args.disk.now) (g.D.Disk.gives synced) (Rests bodies) c.synced_len.ensures.quiet.file told in
    let images = λ (tells : IsTrue (g.D.Disk.tells_images c.scan.new.disk)) (f : List ℕ) (left : g.D.Disk.may_leave c.scan.new.disk f).
    let still = subst IsTrue q.tells tells in
    images_told (g.D.Disk.gives synced) (g.D.Disk.may_leave synced) (Rests bodies) (g.met.D.Disk.now_is synced still) (c.in_ok-length.ensures.durable (subst IsTrue c.synced_len.ensures.quiet.tells still)) told f (q.crash still f left) in (
      bodies,
      p.1,
      p.2,
      p.3,
      omega (arith, within, c.min.ensures, c.scan.ensures.shown, c.is_headed.ensures.shown, c.in_ok-length.ensures.length.0),
      told_same (g.D.Disk.gives c.scan.new.disk) (g.D.Disk.gives headed) (Rests bodies) (sym c.scan.ensures.quiet.file) p.4,
      images,
      told_weaker (g.D.Disk.gives c.args.disk.now) (Rests bodies) (λ f. contents f ≡ Ok bodies) (λ f rests. contents_rests bodies f p.3 rests) first,
    )) c.scan.ensures.found c.scan.ensures.within

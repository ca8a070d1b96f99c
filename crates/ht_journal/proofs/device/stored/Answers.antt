use Rattle.std.proofs.Common.{Bool, List, Option, ℕ, length, IfSome, IsTrue, OnOk, sym, subst}
use Rattle.ht_outside.specs.Disks.{Only, Torn}
use Rattle.ht_journal.proofs.Tearing.{still_torn}
use Rattle.ht_journal.proofs.Moments.{started, goes_on}
use Rattle.ht_journal.proofs.device.stored.Goals as goal

pub returns-in_err-write_at-clause-any_moment : goal.returns-in_err-write_at-clause-any_moment
returns-in_err-write_at-clause-any_moment g c tells =
    let disk = c.args.disk.now in
    let n = length c.args.piece.now in
    let P : List ℕ → Type 0 = λ f. (d : List ℕ) × g.D.Disk.may_leave disk d × Torn c.args.at n d f in
    let at_start = started g.D.Disk disk P (λ f left. (f, g.met.D.Disk.only_now disk f tells left, still_torn c.args.at n f)) in
    goes_on g.D.Disk disk disk c.write_at.new.self P _ at_start (c.write_at.ensures.time tells) (c.write_at.ensures.crash tells)

pub returns-clause-crash : goal.returns-clause-crash
returns-clause-crash g c tells image now = c.write_at.ensures.crash tells image (c.sync.ensures.crash (subst IsTrue (sym c.write_at.ensures.tells) tells) image now)

pub returns-clause-any_moment : goal.returns-clause-any_moment
returns-clause-any_moment g c tells =
    let disk = c.args.disk.now in
    let n = length c.args.piece.now in
    let P : List ℕ → Type 0 = λ f. (d : List ℕ) × g.D.Disk.may_leave disk d × Torn c.args.at n d f in
    let at_start = started g.D.Disk disk P (λ f left. (f, g.met.D.Disk.only_now disk f tells left, still_torn c.args.at n f)) in
    let behind = goes_on g.D.Disk disk disk c.write_at.new.self P _ at_start (c.write_at.ensures.time tells) (c.write_at.ensures.crash tells) in
    let still = subst IsTrue (sym c.write_at.ensures.tells) tells in
    goes_on g.D.Disk disk c.write_at.new.self c.sync.new.self P _ behind (c.sync.ensures.time still) (λ f now. c.write_at.ensures.crash tells f (c.sync.ensures.crash still f now))

pub returns-clause-durable : goal.returns-clause-durable
returns-clause-durable g c =
    let mid = c.write_at.new.self in
    let new = c.sync.new.self in
    let Rests : Bool → Option (List ℕ) → Type 0 = λ tells gives. OnOk c.sync.result (IsTrue tells → IfSome gives (λ file. Only file (g.D.Disk.may_leave new))) in
    let synced : Rests (g.D.Disk.tells_images mid) (g.D.Disk.gives mid) = c.sync.ensures.durable in
    subst (λ (gives : Option (List ℕ)). Rests (g.D.Disk.tells_images c.args.disk.now) gives) (sym c.sync.ensures.file) (subst (λ (tells : Bool). Rests tells (g.D.Disk.gives mid)) c.write_at.ensures.tells synced)

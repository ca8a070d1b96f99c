use Rattle.std.proofs.Common.{◌≡◌, ◌+◌, ◌-◌, take, drop, ◌∙◌, ap, refl, arith}
use Rattle.ht_journal.specs.Bodies.{HasFront, IsBehind}
use Rattle.ht_journal.specs.Keeping.{doubt_of}
use Rattle.ht_journal.specs.Pieces.{IsPiece, IsRead}
use Rattle.ht_journal.proofs.Kept.{kept_on, told_piece}
use Rattle.ht_journal.proofs.Moments.{told_same, told_weaker}
use Rattle.ht_journal.proofs.Nth.{stands_front, told_nth, told_step}
use Rattle.ht_journal.proofs.Quiet.{quiet_on}
use Rattle.ht_journal.proofs.state.JournalState.read_body.Goals as goal

pub returns-in_err-pass-clause-kept : goal.returns-in_err-pass-clause-kept
returns-in_err-pass-clause-kept g c bodies k =
    let s = c.args.self.now in
    let disk = c.args.disk.now in
    let o = g.D.Disk.gives disk in
    let has = told_weaker o _ (HasFront bodies) (stands_front bodies (doubt_of s)) k.file in
    let begun = told_weaker o (IsRead bodies s.reader) (IsRead bodies c.back.new.reader) (λ f r. c.back.ensures.read bodies f r) k.reading in
    let there = c.pass.ensures.read bodies k.fit (omega (arith, k.place)) (omega (arith, k.count)) has begun in
    kept_on g.D.Disk bodies s _ disk c.pass.new.disk c.pass.ensures.quiet c.pass.ensures.shown refl refl refl refl there k

pub returns-in_err-pass-clause-goes_on : goal.returns-in_err-pass-clause-goes_on
returns-in_err-pass-clause-goes_on g c = let k = c.requires.kept in (k.0, returns-in_err-pass-clause-kept g c k.0 k.1)

pub returns-in_err-at-clause-kept : goal.returns-in_err-at-clause-kept
returns-in_err-at-clause-kept g c bodies k =
    let s = c.args.self.now in
    let disk = c.args.disk.now in
    let o = g.D.Disk.gives disk in
    let q2 = quiet_on g.D.Disk disk c.pass.new.disk c.frame_behind.new.disk c.pass.ensures.quiet c.frame_behind.ensures.quiet in
    let has = told_weaker o _ (HasFront bodies) (stands_front bodies (doubt_of s)) k.file in
    let begun = told_weaker o (IsRead bodies s.reader) (IsRead bodies c.back.new.reader) (λ f r. c.back.ensures.read bodies f r) k.reading in
    let there = c.pass.ensures.read bodies k.fit (omega (arith, k.place)) (omega (arith, k.count)) has begun in
    let piece = told_same o (g.D.Disk.gives c.pass.new.disk) (IsPiece c.frame_behind.new.reader) c.pass.ensures.quiet.file c.frame_behind.ensures.piece in
    let now = told_piece o bodies c.pass.new.reader c.frame_behind.new.reader c.frame_behind.ensures.gate.0 c.frame_behind.ensures.gate.1 piece there in
    kept_on g.D.Disk bodies s _ disk c.frame_behind.new.disk q2 (c.frame_behind.ensures.shown ∙ c.pass.ensures.shown) refl refl refl refl now k

pub returns-in_err-read_at-clause-kept : goal.returns-in_err-read_at-clause-kept
returns-in_err-read_at-clause-kept g c bodies k =
    let s = c.args.self.now in
    let disk = c.args.disk.now in
    let o = g.D.Disk.gives disk in
    let q2 = quiet_on g.D.Disk disk c.pass.new.disk c.frame_behind.new.disk c.pass.ensures.quiet c.frame_behind.ensures.quiet in
    let q3 = quiet_on g.D.Disk disk c.frame_behind.new.disk c.read_at.new.disk q2 c.read_at.ensures.quiet in
    let has = told_weaker o _ (HasFront bodies) (stands_front bodies (doubt_of s)) k.file in
    let begun = told_weaker o (IsRead bodies s.reader) (IsRead bodies c.back.new.reader) (λ f r. c.back.ensures.read bodies f r) k.reading in
    let there = c.pass.ensures.read bodies k.fit (omega (arith, k.place)) (omega (arith, k.count)) has begun in
    let piece = told_same o (g.D.Disk.gives c.frame_behind.new.disk) (IsPiece c.read_at.new.reader) q2.file c.read_at.ensures.piece in
    let now = told_piece o bodies c.pass.new.reader c.read_at.new.reader (c.read_at.ensures.gate.0 ∙ c.frame_behind.ensures.gate.0) (c.read_at.ensures.gate.1 ∙ c.frame_behind.ensures.gate.1) piece there in
    kept_on g.D.Disk bodies s _ disk c.read_at.new.disk q3 (c.read_at.ensures.shown ∙ c.frame_behind.ensures.shown ∙ c.pass.ensures.shown) refl refl refl refl now k

pub returns-clause-body : goal.returns-clause-body
returns-clause-body g c bodies k =
    let s = c.args.self.now in
    let disk = c.args.disk.now in
    let o = g.D.Disk.gives disk in
    let end = s.length - 1 in
    let q2 = quiet_on g.D.Disk disk c.pass.new.disk c.frame_behind.new.disk c.pass.ensures.quiet c.frame_behind.ensures.quiet in
    let has = told_weaker o _ (HasFront bodies) (stands_front bodies (doubt_of s)) k.file in
    let begun = told_weaker o (IsRead bodies s.reader) (IsRead bodies c.back.new.reader) (λ f r. c.back.ensures.read bodies f r) k.reading in
    let there = c.pass.ensures.read bodies k.fit (omega (arith, k.place)) (omega (arith, k.count)) has begun in
    let behind = told_same o (g.D.Disk.gives c.pass.new.disk) (IsBehind c.pass.new.reader.gate end c.in_ok-at.at c.in_ok-at.len) c.pass.ensures.quiet.file c.in_ok-at.ensures.behind in
    let bytes = told_same o (g.D.Disk.gives c.frame_behind.new.disk) (λ f. c.read_at.new.into.items ≡ take c.in_ok-at.len (drop c.in_ok-at.at f)) q2.file c.in_ok-read_at.ensures.body in
    let passed : c.pass.new.reader.passed ≡ c.args.n - 1 = c.in_ok-pass.ensures.passed.1 in
    told_nth o bodies c.pass.new.reader c.args.n end c.in_ok-at.at c.in_ok-at.len c.read_at.new.into.items k.fit (omega (arith, k.place)) c.requires.number.0 (omega (arith, k.count)) passed has there behind bytes

pub returns-clause-kept : goal.returns-clause-kept
returns-clause-kept g c bodies k =
    let s = c.args.self.now in
    let disk = c.args.disk.now in
    let o = g.D.Disk.gives disk in
    let end = s.length - 1 in
    let q2 = quiet_on g.D.Disk disk c.pass.new.disk c.frame_behind.new.disk c.pass.ensures.quiet c.frame_behind.ensures.quiet in
    let q3 = quiet_on g.D.Disk disk c.frame_behind.new.disk c.read_at.new.disk q2 c.read_at.ensures.quiet in
    let has = told_weaker o _ (HasFront bodies) (stands_front bodies (doubt_of s)) k.file in
    let begun = told_weaker o (IsRead bodies s.reader) (IsRead bodies c.back.new.reader) (λ f r. c.back.ensures.read bodies f r) k.reading in
    let there = c.pass.ensures.read bodies k.fit (omega (arith, k.place)) (omega (arith, k.count)) has begun in
    let behind = told_same o (g.D.Disk.gives c.pass.new.disk) (IsBehind c.pass.new.reader.gate end c.in_ok-at.at c.in_ok-at.len) c.pass.ensures.quiet.file c.in_ok-at.ensures.behind in
    let piece = told_same o (g.D.Disk.gives c.frame_behind.new.disk) (IsPiece c.read_at.new.reader) q2.file c.read_at.ensures.piece in
    let passed : c.pass.new.reader.passed ≡ c.args.n - 1 = c.in_ok-pass.ensures.passed.1 in
    let now = told_step o bodies c.pass.new.reader _ end c.in_ok-at.at c.in_ok-at.len k.fit (omega (arith, k.place)) (omega (arith, k.count)) has there behind piece (ap (λ n. c.in_ok-at.at + n) c.from.ensures) (omega arith) in
    kept_on g.D.Disk bodies s _ disk c.read_at.new.disk q3 (c.read_at.ensures.shown ∙ c.frame_behind.ensures.shown ∙ c.pass.ensures.shown) refl refl refl refl now k

pub returns-in_err-at-clause-goes_on : goal.returns-in_err-at-clause-goes_on
returns-in_err-at-clause-goes_on g c = let k = c.requires.kept in (k.0, returns-in_err-at-clause-kept g c k.0 k.1)

pub returns-in_err-read_at-clause-goes_on : goal.returns-in_err-read_at-clause-goes_on
returns-in_err-read_at-clause-goes_on g c = let k = c.requires.kept in (k.0, returns-in_err-read_at-clause-kept g c k.0 k.1)

pub returns-clause-goes_on : goal.returns-clause-goes_on
returns-clause-goes_on g c = let k = c.requires.kept in (k.0, returns-clause-kept g c k.0 k.1)

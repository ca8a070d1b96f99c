use Rattle.std.proofs.Common.{◌≡◌, ◌+◌, inl, inr, ℕ, List, length, take, drop, refl, ◌∙◌, arith}
use Rattle.ht_journal.proofs.Moments.{told_same}
use Rattle.ht_journal.proofs.Scans.{open_gate, broken, too_long, too_short, stands}
use Rattle.ht_journal.proofs.opening.frame_at.Goals as goal

pub returns-then-end-gate-le5-clause-fault : goal.returns-then-end-gate-le5-clause-fault
returns-then-end-gate-le5-clause-fault g c =
    let o = g.D.Disk.gives c.args.disk.now in
    let r = c.requires.range in
    let is_open = open_gate o c.args.gate c.args.end c.read.new.into (omega arith) c.requires.told r.0 c.if-byte-ne1.false c.in_ok-read.ensures.bytes in
    ((refl, broken o c.args.gate c.args.end c.requires.told r.0 is_open (too_short o c.args.gate c.args.end (omega arith))), c.in_ok-read.ensures.still)

pub returns-then-n-gt-LONGEST_BODY-clause-fault : goal.returns-then-n-gt-LONGEST_BODY-clause-fault
returns-then-n-gt-LONGEST_BODY-clause-fault g c =
    let o = g.D.Disk.gives c.args.disk.now in
    let r = c.requires.range in
    let is_open = open_gate o c.args.gate c.args.end c.read.new.into (omega arith) c.requires.told r.0 c.if-byte-ne1.false c.in_ok-read.ensures.bytes in
    let bytes : List ℕ = c.read-2.new.into in
    let told = told_same o (g.D.Disk.gives c.read.new.disk) (λ f. bytes ≡ take (length bytes) (drop (c.args.gate + 1) f)) c.read.ensures.quiet.file c.in_ok-read-2.ensures.bytes in
    ((refl, broken o c.args.gate c.args.end c.requires.told r.0 is_open (too_long o c.args.gate c.args.end _ bytes (omega arith) c.from_le_bytes-n.ensures told (inl c.if-n-gt-LONGEST_BODY.true))), c.in_ok-read-2.ensures.still ∙ c.in_ok-read.ensures.still)

pub returns-then-end-gate-clause-fault : goal.returns-then-end-gate-clause-fault
returns-then-end-gate-clause-fault g c =
    let o = g.D.Disk.gives c.args.disk.now in
    let r = c.requires.range in
    let is_open = open_gate o c.args.gate c.args.end c.read.new.into (omega arith) c.requires.told r.0 c.if-byte-ne1.false c.in_ok-read.ensures.bytes in
    let bytes : List ℕ = c.read-2.new.into in
    let told = told_same o (g.D.Disk.gives c.read.new.disk) (λ f. bytes ≡ take (length bytes) (drop (c.args.gate + 1) f)) c.read.ensures.quiet.file c.in_ok-read-2.ensures.bytes in
    ((refl, broken o c.args.gate c.args.end c.requires.told r.0 is_open (too_long o c.args.gate c.args.end _ bytes (omega arith) c.from_le_bytes-n.ensures told (inr (omega arith)))), c.in_ok-read-2.ensures.still ∙ c.in_ok-read.ensures.still)

pub returns-clause-stands : goal.returns-clause-stands
returns-clause-stands g c =
    let o = g.D.Disk.gives c.args.disk.now in
    let r = c.requires.range in
    let is_open = open_gate o c.args.gate c.args.end c.read.new.into (omega arith) c.requires.told r.0 c.if-byte-ne1.false c.in_ok-read.ensures.bytes in
    let bytes : List ℕ = c.read-2.new.into in
    let told = told_same o (g.D.Disk.gives c.read.new.disk) (λ f. bytes ≡ take (length bytes) (drop (c.args.gate + 1) f)) c.read.ensures.quiet.file c.in_ok-read-2.ensures.bytes in
    stands o c.args.gate _ bytes (omega arith) c.read-2.ensures.small c.from_le_bytes-n.ensures is_open told

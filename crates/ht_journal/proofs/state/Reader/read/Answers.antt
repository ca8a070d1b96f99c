use Rattle.std.proofs.Common.{◌≡◌, ◌+◌, ◌-◌, List, ℕ, length, take, drop, ap, ◌∙◌, arith}
use Rattle.ht_journal.proofs.Passed.{told_bytes}
use Rattle.ht_journal.proofs.state.Reader.read.Goals as goal

pub returns-clause-bytes : goal.returns-clause-bytes
returns-clause-bytes g c =
    let o = g.D.Disk.gives c.args.disk.now in
    let reader = c.hold.new.self in
    let into = c.copy_from_slice.new.self in
    let start = c.args.at - reader.from in
    let h = c.copy_from_slice.ensures in
    let r = c.in_ok-hold.ensures.held in
    let n : start + length c.args.into.now - start ≡ length into = omega (arith, h.len) in
    let is : into ≡ take (length into) (drop start reader.bytes.items) = h.after ∙ ap (λ k. take k (drop start c.deref.result.now)) n ∙ ap (λ (l : List ℕ). take (length into) (drop start l)) c.deref.ensures.value in
    told_bytes o reader c.args.at start (length into) into c.hold.ensures.piece (omega arith) (omega (arith, h.len)) is

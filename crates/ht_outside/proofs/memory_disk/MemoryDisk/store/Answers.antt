use Rattle.std.proofs.Common.{◌≡◌, length, ap, sym, ◌∙◌, arith}
use Rattle.ht_outside.specs.Disks.{written}
use Rattle.ht_outside.specs.MemoryDisks.{ScriptedDisk, holds_bytes}
use Rattle.ht_outside.specs.ImageLaws.{length_written}
use Rattle.ht_outside.proofs.ImageLaws.{holds_written, present_written}
use Rattle.ht_outside.proofs.memory_disk.MemoryDisk.store.Goals as goal

pub invariant_of-self-in-Ok : goal.invariant_of-self-in-Ok
invariant_of-self-in-Ok c =
    let f = c.self.inside in
    let kept = c.in-Ok.ensures.file ∙ (ap (written c.args.at c.args.piece.now) c.self.invariant.0 ∙ sym (present_written f.bytes.items f.calls.items c.write.new.calls.items c.args.at c.args.piece.now c.in-Ok.ensures.calls)) in
    let long = length_written c.args.at c.args.piece.now f.file.items in
    let same : length c.write.new.file.items ≡ length (written c.args.at c.args.piece.now f.file.items) = ap length c.in-Ok.ensures.file in
    (kept, omega (arith, c.self.invariant.1, long.0, long.1, same), holds_written f.bytes.items f.calls.items c.self.invariant.2 c.write.new.calls.items c.args.at c.args.piece.now (λ k. (c.type_inv.piece k).fits) c.in-Ok.ensures.calls)

pub returns-in-Ok-clause-tells : goal.returns-in-Ok-clause-tells
returns-in-Ok-clause-tells c =
    let f = c.self.inside in
    holds_written f.bytes.items f.calls.items c.self.invariant.2 c.write.new.calls.items c.args.at c.args.piece.now (λ k. (c.type_inv.piece k).fits) c.in-Ok.ensures.calls ∙ (sym c.self.invariant.2 ∙ ap (λ (d : ScriptedDisk). holds_bytes d.bytes d.calls) c.self.view_is)

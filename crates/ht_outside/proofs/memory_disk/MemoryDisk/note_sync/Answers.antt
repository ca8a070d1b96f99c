use Rattle.std.proofs.Common.{sym, ◌∙◌}
use Rattle.ht_outside.proofs.ImageLaws.{holds_synced, present_synced}
use Rattle.ht_outside.proofs.memory_disk.MemoryDisk.note_sync.Goals as goal

pub invariant_of-self-in-Ok : goal.invariant_of-self-in-Ok
invariant_of-self-in-Ok c =
    let f = c.self.inside in
    (c.self.invariant.0 ∙ sym (present_synced f.bytes.items f.calls.items c.push_sync.new.calls.items c.in-Ok.ensures.ok), c.self.invariant.1, holds_synced f.bytes.items f.calls.items c.self.invariant.2 c.push_sync.new.calls.items c.in-Ok.ensures.ok)

use Rattle.std.proofs.Common.{◌∙◌}
use Rattle.ht_wire.proofs.Buffered.{fills_gain}
use Rattle.ht_wire.proofs.buffer.Buffer.fill.Goals as goal

pub returns-clause-bytes : goal.returns-clause-bytes
returns-clause-bytes g c = fills_gain _ _ c.make_room.new.bytes.items _ _ _ _ _ (c.make_room.ensures.moved.same ∙ c.self.view_is) c.make_room.ensures.moved.order c.in_ok-make_room.ensures.room c.in_ok-count.ensures.size c.in_ok-count.ensures.before c.in_ok-count.ensures.bytes

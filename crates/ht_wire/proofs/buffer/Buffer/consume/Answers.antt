use Rattle.ht_wire.proofs.Buffered.{range_later}
use Rattle.ht_wire.proofs.buffer.Buffer.consume.Goals as goal

pub returns-else-self : goal.returns-else-self
returns-else-self c = range_later _ _ _ _ _ c.self.view_is c.requires

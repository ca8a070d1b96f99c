use Rattle.std.proofs.Common.{rules}
use Rattle.ht_wire.specs.Replies.{reply_head}
use Rattle.ht_wire.proofs.replying.put_head.Goals as goal

pub returns : goal.returns
unfolding reply_head
returns c = search rules

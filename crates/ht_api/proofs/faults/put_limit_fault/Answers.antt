use Rattle.std.proofs.Common.{codes, arith}
use Rattle.ht_api.proofs.Room.{has_room, named_fault_room}
use Rattle.ht_api.proofs.faults.put_limit_fault.Goals as goal

pub returns-clause-room : goal.returns-clause-room
returns-clause-room c =
    has_room c.put_short.result c.args.writer.now.spare _ c.put_short.ensures.full
    (named_fault_room (codes "Limit") (codes "limit") c.args.limit.now (omega arith) (omega arith) (omega arith))

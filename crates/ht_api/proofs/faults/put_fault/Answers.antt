use Rattle.ht_api.proofs.Room.{fault_room, has_room}
use Rattle.ht_api.proofs.faults.put_fault.Goals as goal

pub returns-clause-room : goal.returns-clause-room
returns-clause-room c = has_room c.put_short.result c.args.writer.now.spare _ c.put_short.ensures.full (fault_room c.args.name.now c.requires)

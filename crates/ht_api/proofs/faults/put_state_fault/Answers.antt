use Rattle.ht_api.proofs.Room.{has_room, state_room}
use Rattle.ht_api.proofs.faults.put_state_fault.Goals as goal

pub returns-clause-room : goal.returns-clause-room
returns-clause-room c = has_room c.put_short.result c.args.writer.now.spare _ c.put_short.ensures.full (state_room c.args.allowed.now c.args.state)

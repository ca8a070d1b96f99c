use Rattle.ht_api.proofs.Room.{has_room, named_fault_room}
use Rattle.ht_api.proofs.faults.put_named_fault.Goals as goal

pub returns-clause-room : goal.returns-clause-room
returns-clause-room c =
    has_room c.put_short.result c.args.writer.now.spare _ c.put_short.ensures.full
    (named_fault_room c.args.name.now c.args.key.now c.args.what.now c.requires.name c.requires.key c.as_bytes.ensures.short)

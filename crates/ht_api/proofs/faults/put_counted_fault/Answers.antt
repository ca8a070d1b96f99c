use Rattle.std.proofs.Common.{◌^◌, ◌<◌, arith}
use Rattle.ht_api.proofs.Room.{counted_fault_room, has_room}
use Rattle.ht_api.proofs.faults.put_counted_fault.Goals as goal

pub returns-clause-room : goal.returns-clause-room
returns-clause-room c =
    let small : c.args.number < 2 ^ 64 = omega (arith, c.from.type_inv, c.from.ensures) in
    has_room c.put_short.result c.args.writer.now.spare _ (rw c.from.ensures at c.put_short.ensures.full)
    (counted_fault_room c.args.name.now c.args.key.now c.args.number c.requires.name c.requires.key small)

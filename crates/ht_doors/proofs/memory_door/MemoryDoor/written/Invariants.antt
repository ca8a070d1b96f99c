use Rattle.std.proofs.Common.{◌≡◌}
use Rattle.ht_doors.specs.MemoryDoors.{written_at}
use Rattle.ht_doors.proofs.memory_door.MemoryDoor.written.Given as goal

abbrev pub invariant-loop-link : goal.invariant-loop-link
invariant-loop-link g l = written_at l.place l.self.returned ≡ written_at l.place l.link-iterator

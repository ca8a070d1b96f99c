use Rattle.std.proofs.Common.{◌≡◌, ◌≤◌, length, map}
use Rattle.ht_pool.specs.Gathering.{seat_of, seats_to}
use Rattle.ht_pool.proofs.seats.seats_of.Given as goal

abbrev pub invariant-loop-place : goal.invariant-loop-place
invariant-loop-place g l = record {
  links : (g.D.Door.door_state l.door).links ≡ (g.D.Door.door_state l.fn.door).links;
  back : (g.D.Door.door_state l.door).back ≡ (g.D.Door.door_state l.fn.door).back;
  faults : (g.D.Door.door_state l.fn.door).faults ≤ (g.D.Door.door_state l.door).faults;
  count : length l.seats.items ≡ l.place;
  seats : map (λ s. seat_of (g.D.Door.door_state s.door) s.share) l.seats.items ≡ seats_to l.crew.workers l.crew.connections (g.D.Door.door_state l.fn.door) l.place;
}

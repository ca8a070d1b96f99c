use Rattle.std.proofs.Common.{◌≡◌, ◌+◌, ◌<◌, ◌≤◌, ◌++◌, map, length, vec_capacity}
use Rattle.ht_shared.specs.Passes.{IsOf}
use Rattle.ht_pool.specs.Gathering.{gave, seat_of, staff_of, worker_of}
use Rattle.ht_pool.proofs.seats.staff.Given as goal

-- The workers that are there, and those that are made of the seats that are left, are those of all seats.
abbrev pub invariant-loop-seat : goal.invariant-loop-seat
invariant-loop-seat g l = record {
  of : IsOf l.shared l.first;
  first : l.first.number ≡ 0;
  few : l.first.given + length l.seat-iterator.rest.items < 4294967295;
  room : length l.workers.items + length l.seat-iterator.rest.items ≤ vec_capacity l.workers;
  staff : map (λ w. worker_of w.pass (g.D.Door.door_state w.door) w.share w.ending) l.workers.items ++ staff_of l.first (map (λ s. seat_of (g.D.Door.door_state s.door) s.share) l.seat-iterator.rest.items)
      ≡ staff_of l.fn.first (map (λ s. seat_of (g.D.Door.door_state s.door) s.share) l.fn.seats.items);
  given : gave l.first (length l.seat-iterator.rest.items) ≡ gave l.fn.first (length l.fn.seats.items);
}

use Rattle.std.proofs.Common.{◌≡◌, map}
use Rattle.ht_doors.specs.Doors.{DoorState}
use Rattle.ht_shared.specs.Passes.{IsOf, PassOf}
use Rattle.ht_base.specs.declared.event.Event.{Event}
use Rattle.ht_base.specs.declared.reply.Reply.{Reply}
use Rattle.ht_workers.specs.declared.working.WorkEnd.TheVariants as ended
use Rattle.ht_pool.specs.Gathering.{AreOf, JoinsForks, JoinsPasses, doors_of, endings_of, passes_of, worker_of, worst}
use Rattle.ht_pool.proofs.gathering.gather.Given as goal

-- What is made of those that are left, from here on, is what is made of all from the beginning.
abbrev pub invariant-loop-worker : goal.invariant-loop-worker
invariant-loop-worker g l = record {
  of : IsOf l.shared l.first;
  others : AreOf l.shared (map (λ w. worker_of w.pass (g.D.Door.door_state w.door) w.share w.ending) l.worker-iterator.rest.items);
  passes : (q : PassOf g.row.T.Denot Event Reply)
      → JoinsPasses l.first (passes_of (map (λ w. worker_of w.pass (g.D.Door.door_state w.door) w.share w.ending) l.worker-iterator.rest.items)) q
      → JoinsPasses l.fn.first (passes_of (map (λ w. worker_of w.pass (g.D.Door.door_state w.door) w.share w.ending) l.fn.workers.items)) q;
  doors : (d : DoorState)
      → JoinsForks (g.D.Door.door_state l.door) (doors_of (map (λ w. worker_of w.pass (g.D.Door.door_state w.door) w.share w.ending) l.worker-iterator.rest.items)) d
      → JoinsForks (g.D.Door.door_state l.fn.door) (doors_of (map (λ w. worker_of w.pass (g.D.Door.door_state w.door) w.share w.ending) l.fn.workers.items)) d;
  ending : worst l.end (endings_of (map (λ w. worker_of w.pass (g.D.Door.door_state w.door) w.share w.ending) l.worker-iterator.rest.items))
      ≡ worst ended.Done (endings_of (map (λ w. worker_of w.pass (g.D.Door.door_state w.door) w.share w.ending) l.fn.workers.items));
}

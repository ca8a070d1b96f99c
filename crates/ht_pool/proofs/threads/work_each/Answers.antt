use Rattle.std.proofs.Common.{rules}
use Rattle.std.proofs.iter.Serving.{serving}
use Rattle.ht_shared.specs.Passes.{IsOf}
use Rattle.ht_pool.specs.Gathering.{HasWorked, worker_of}
use Rattle.ht_pool.proofs.Changed.{at_each, changed_as}
use Rattle.ht_pool.proofs.threads.work_each.Goals as goal

pub for_each_mut-requires-clause-accepts : goal.for_each_mut-requires-clause-accepts
for_each_mut-requires-clause-accepts g c κs within i p low is = (at_each (λ w. worker_of w.pass (g.D.Door.door_state w.door) w.share w.ending) (λ w. IsOf c.args.shared.now w.pass) c.args.workers.now i p.now c.requires low is, grind serving)

pub returns : goal.returns
returns g c = changed_as _ _ (λ w. worker_of w.pass (g.D.Door.door_state w.door) w.share w.ending) (HasWorked g.T.Stepper.relates) c.args.workers.now c.for_each_mut.new.s (search rules) (λ i p q m. m) c.for_each_mut.ensures

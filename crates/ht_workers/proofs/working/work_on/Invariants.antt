use Rattle.ht_shared.specs.Passes.{IsOf}
use Rattle.ht_workers.specs.Passing.{IsOutOfTickets, PassMade}
use Rattle.ht_workers.specs.Working.{Works}
use Rattle.ht_workers.proofs.working.work_on.Given as goal

abbrev pub invariant-loop-number : goal.invariant-loop-number
invariant-loop-number g l = record {
  works : Works (PassMade g.T.Stepper.relates l.fn.pass l.pass) (IsOutOfTickets l.pass) l.number (g.D.Door.door_state l.fn.door) (g.D.Door.door_state l.door);
  of : IsOf l.shared l.pass;
}

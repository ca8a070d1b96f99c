use Rattle.std.proofs.Common.{ℕ}
use Rattle.ht_shared.specs.Passes.{IsOf}
use Rattle.ht_workers.specs.Passing.{IsOutOfTickets, PassMade}
use Rattle.ht_workers.specs.Working.{Works}
use Rattle.ht_workers.proofs.working.go_on.Given as goal

abbrev pub invariant-loop : goal.invariant-loop
invariant-loop g l = record {
  works : (n : ℕ) × Works (PassMade g.T.Stepper.relates l.fn.pass l.pass) (IsOutOfTickets l.pass) n (g.D.Door.door_state l.fn.door) (g.D.Door.door_state l.door);
  of : IsOf l.shared l.pass;
}

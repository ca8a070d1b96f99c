use Rattle.ht_shared.specs.Passes.{IsOf}
use Rattle.ht_workers.specs.Passing.{PassMade}
use Rattle.ht_workers.specs.Timing.{Timed, timer_of}
use Rattle.ht_workers.proofs.timing.timer_loop.Given as goal

abbrev pub invariant-loop : goal.invariant-loop
invariant-loop g l = record {
  timed : Timed (PassMade g.T.Stepper.relates l.fn.pass l.pass) (timer_of g.C.Clock g.F.Finish l.fn.clock l.fn.finish 0) (timer_of g.C.Clock g.F.Finish l.clock l.finish l.turns);
  of : IsOf l.shared l.pass;
}

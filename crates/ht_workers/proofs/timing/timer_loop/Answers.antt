use Rattle.ht_workers.specs.PassLaws.{of_then, pass_none, pass_more, same_then}
use Rattle.ht_workers.proofs.Turns.{ends_on, timed_none, timed_on}
use Rattle.ht_workers.proofs.timing.timer_loop.Goals as goal

pub loop-init : goal.loop-init
loop-init g c = record { timed = timed_none _ _ (pass_none _ _); of = c.requires.pass }

pub returns-then-not-turn : goal.returns-then-not-turn
returns-then-not-turn g c = record {
  ends = ends_on _ _ _ (pass_more _ _ _ _) _ _ _ _ _ c.loop.invariant.timed c.if-not-turn.ensures.turned;
  pass = same_then _ _ _ c.loop.invariant.timed.made.same c.turn.ensures.pass;
}

pub loop-preserved : goal.loop-preserved
loop-preserved g c = record {
  timed = rw c.rest.ensures (timed_on _ _ _ (pass_more _ _ _ _) _ _ _ c.loop.invariant.timed c.if-not-turn.ensures.turned);
  of = of_then _ _ _ c.loop.invariant.of c.turn.ensures.pass;
}

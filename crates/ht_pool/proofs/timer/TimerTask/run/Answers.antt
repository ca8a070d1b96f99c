use Rattle.std.proofs.Common.{refl}
use Rattle.ht_pool.proofs.Turning.{has_turned}
use Rattle.ht_pool.proofs.timer.TimerTask.run.Goals as goal

pub returns : goal.returns
returns g c = has_turned _ _ _ _ _ _ c.timer_loop.ensures.ends refl c.timer_loop.ensures.pass

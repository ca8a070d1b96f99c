use Rattle.std.proofs.Common.{refl}
use Rattle.ht_workers.specs.PassLaws.{pass_one, pass_away}
use Rattle.ht_workers.proofs.Turns.{no_turn_left, one_turn}
use Rattle.ht_workers.proofs.timing.turn.Goals as goal

pub returns-in-Ok-clause-turned : goal.returns-in-Ok-clause-turned
returns-in-Ok-clause-turned g c =
    one_turn _ _ _ _ _ c.now-at.result.0 _ _ (pass_one _ _ _ _ _ _ c.requires.pass c.in-Ok.ensures.called) refl c.now-at.ensures.next c.now-at.ensures.valid c.now-at.ensures.left c.one_more.ensures c.done.ensures.asked
    c.done.ensures.last

pub returns-clause-turned : goal.returns-clause-turned
returns-clause-turned g c = no_turn_left _ _ _ _ _ _ _ (pass_away _ _ _ c.in-Err.ensures.spent) (c.in-Err.ensures.spent.drawn, c.in-Err.ensures.spent.found) c.now-at.ensures.left

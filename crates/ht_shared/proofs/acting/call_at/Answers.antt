use Rattle.ht_shared.proofs.KeptInTurns.{acts}
use Rattle.ht_shared.proofs.acting.call_at.Goals as goal

pub returns-in-Some-clause-acts : goal.returns-in-Some-clause-acts
returns-in-Some-clause-acts g c = acts g.T.Stepper.relates g.T.Stepper.stands c.args.event.now c.act.result c.in-Some.ticket c.args.place.now.me c.take_ticket.new.place.me c.await_turn.new.place.me c.act.new.place.me c.in-Some.ensures.ticket c.await_turn.ensures.turn c.act.ensures.entry

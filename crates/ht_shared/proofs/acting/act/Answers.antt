use Rattle.ht_shared.specs.Plays.{made}
use Rattle.ht_shared.proofs.Lists.{end_on}
use Rattle.ht_shared.proofs.KeptInTurns.{taken}
use Rattle.ht_shared.proofs.acting.act.Goals as goal

pub slot_mut-requires : goal.slot_mut-requires
slot_mut-requires g c = (c.requires.board.same, taken _ _ c.requires.value.3)

pub pass_on-requires-clause-value : goal.pass_on-requires-clause-value
pass_on-requires-clause-value g c =
    let v = c.requires.value in
    let n = c.enter.ensures.entry in
    let w = c.args.place.now.me.0 in
    rw n.2 (v.0, n.0, v.2, n.1, end_on v.0 w.seen (made w.number c.args.event.now c.step-reply.result n.0))

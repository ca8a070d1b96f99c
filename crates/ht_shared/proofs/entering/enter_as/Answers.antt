use Rattle.std.proofs.Common.{arith}
use Rattle.ht_shared.proofs.KeptByTurns.{enters}
use Rattle.ht_shared.proofs.entering.enter_as.Goals as goal

pub fetch_add-requires : goal.fetch_add-requires
fetch_add-requires g c =
    let h = c.requires.holds in (
      c.requires.board.same,
      omega (arith, c.requires.board.words),
      rw (c.requires.board.slots, h.3, c.requires.event, c.requires.reply) (enters g.T.Stepper.relates g.T.Stepper.stands c.args.board.now.shared.key _ _ c.args.place.now.id c.args.place.now.me.0 h.0 h.1 c.args.event.now c.args.reply.now h.2 c.requires.inside c.requires.fresh h.4 h.5),
    )

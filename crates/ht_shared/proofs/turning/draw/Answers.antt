use Rattle.std.proofs.Common.{arith}
use Rattle.ht_shared.proofs.KeptByTurns.{draws}
use Rattle.ht_shared.proofs.turning.draw.Goals as goal

pub compare_exchange-requires : goal.compare_exchange-requires
compare_exchange-requires g c =
    let i = c.requires.idle.1 in (
      c.requires.board.same,
      omega (arith, c.requires.board.words),
      rw (c.requires.board.slots, i.free.slots) (draws g.T.Stepper.relates g.T.Stepper.stands c.args.board.now.shared.key c.args.place.now.id c.args.ticket c.args.place.now.me.0 c.requires.idle.0 i.free.start_is i.ticket i.free.outside c.requires.low),
    )

use Rattle.std.proofs.Common.{arith}
use Rattle.ht_shared.proofs.KeptByTurns.{arrives}
use Rattle.ht_shared.proofs.turning.arrive.Goals as goal

pub load-requires : goal.load-requires
load-requires g c =
    let i = c.requires.free.1 in (
      c.requires.board.same,
      omega (arith, c.requires.board.words),
      rw (c.requires.board.slots, i.slots) (arrives g.T.Stepper.relates g.T.Stepper.stands c.args.board.now.shared.key c.args.place.now.id c.args.ticket c.args.place.now.me.0 c.requires.free.0 i.start_is c.requires.ticket i.outside i.entered),
    )

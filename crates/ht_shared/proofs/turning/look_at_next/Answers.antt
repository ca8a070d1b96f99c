use Rattle.std.proofs.Common.{arith}
use Rattle.ht_shared.proofs.KeptByLooks.{looks_next}
use Rattle.ht_shared.proofs.turning.look_at_next.Goals as goal

pub load-requires : goal.load-requires
load-requires g c =
    let i = c.requires.idle.1 in (
      c.requires.board.same,
      omega (arith, c.requires.board.words),
      rw (c.requires.board.slots, i.free.slots) (looks_next g.T.Stepper.relates g.T.Stepper.stands c.args.board.now.shared.key c.args.place.now.id c.args.place.now.me.0 c.requires.idle.0 i.free.start_is i.free.outside),
    )

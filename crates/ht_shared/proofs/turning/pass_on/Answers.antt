use Rattle.std.proofs.Common.{arith}
use Rattle.ht_shared.proofs.KeptByTurns.{passes}
use Rattle.ht_shared.proofs.turning.pass_on.Goals as goal

pub store-requires : goal.store-requires
store-requires g c =
    let v = c.requires.value in (
      c.requires.board.same,
      omega (arith, c.requires.board.words),
      rw (c.requires.board.slots, v.3) (passes g.T.Stepper.relates g.T.Stepper.stands c.args.board.now.shared.key c.args.place.now.id c.args.ticket c.args.place.now.me.0 v.0 v.1 v.2 c.requires.inside c.requires.entered c.requires.ticket v.4),
    )

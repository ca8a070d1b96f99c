use Rattle.std.proofs.Common.{arith}
use Rattle.ht_shared.proofs.KeptByNumbers.{draws_number}
use Rattle.ht_shared.proofs.numbers.draw_number.Goals as goal

pub fetch_add-requires : goal.fetch_add-requires
fetch_add-requires g c =
    let i = c.requires.idle.1 in (
      c.requires.board.same,
      omega (arith, c.requires.board.words),
      rw (c.requires.board.slots, i.free.slots) (draws_number g.T.Stepper.relates g.T.Stepper.stands c.args.board.now.shared.key c.args.place.now.id c.args.place.now.me.0 c.requires.idle.0 i.free.start_is i.free.outside c.requires.first c.requires.none c.requires.few),
    )

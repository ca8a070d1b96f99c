use Rattle.std.proofs.Common.{arith, ◌∙◌}
use Rattle.ht_shared.proofs.KeptAtOpening.{takes_slot, begins, filled}
use Rattle.ht_shared.proofs.opening.put.Goals as goal

pub load-requires : goal.load-requires
load-requires g c = (
  c.requires.board.same,
  omega (arith, c.requires.board.words),
  rw (c.requires.board.slots, c.requires.first) (takes_slot g.T.Stepper.relates g.T.Stepper.stands c.args.board.now.shared.key c.args.place.now.id),
)

pub load-requires-2 : goal.load-requires-2
load-requires-2 g c =
    let a = c.load.ensures in
    let b = c.exchange.ensures in (
      b.0 ∙ (a.0 ∙ c.requires.board.same),
      omega (arith, c.requires.board.words),
      rw (c.requires.board.slots, filled c.load.new.seat.me c.exchange.new.seat.me c.args.value a.2 b.3) (begins g.T.Stepper.relates g.T.Stepper.stands c.args.board.now.shared.key c.exchange.new.seat.id c.args.value c.requires.key c.requires.stands),
    )

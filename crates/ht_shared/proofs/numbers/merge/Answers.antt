use Rattle.std.proofs.Common.{arith, ◌∙◌, subst, All}
use Rattle.ht_shared.specs.Rule.{Continues}
use Rattle.ht_shared.specs.Plays.{joined}
use Rattle.ht_shared.proofs.KeptByLooks.{looks_back}
use Rattle.ht_shared.proofs.KeptByNumbers.{joins}
use Rattle.ht_shared.proofs.numbers.merge.Goals as goal

pub join_seat-requires : goal.join_seat-requires
join_seat-requires g c =
    let i = c.requires.idle.1 in
    let j = c.requires.idle_too.1 in (
      c.requires.board.same,
      c.requires.other.same,
      j.free.slots,
      omega (arith, c.requires.board.words),
      joins g.T.Stepper.relates g.T.Stepper.stands c.args.board.now.shared.key c.args.place.now.id c.args.other.id c.args.place.now.me.0 c.args.other.me.0 c.requires.idle.0 c.requires.idle_too.0 i.free.start_is j.free.start_is j.ticket i.free.outside j.free.outside,
    )

pub load-requires : goal.load-requires
load-requires g c =
    let i = c.requires.idle.1 in (
      c.join_seat.ensures.0 ∙ c.requires.board.same,
      omega (arith, c.requires.board.words),
      rw (c.requires.board.slots, c.join_seat.ensures.2, i.free.slots) (looks_back g.T.Stepper.relates g.T.Stepper.stands c.args.board.now.shared.key c.join_seat.new.seat.id (joined c.args.place.now.me.0 c.args.other.me.0) c.requires.idle.0 i.free.start_is i.free.outside),
    )

pub returns-clause-before : goal.returns-clause-before
returns-clause-before g c = subst (λ m. All (Continues m.0.seen) m.0.before) c.join_seat.ensures.2 c.load.ensures.2.1

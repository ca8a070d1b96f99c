use Rattle.std.proofs.Common.{arith, ◌∙◌, refl}
use Rattle.ht_shared.specs.Plays.{numbering}
use Rattle.ht_shared.proofs.KeptByNumbers.{splits}
use Rattle.ht_shared.proofs.numbers.give.Goals as goal

pub split_seat-given-requires : goal.split_seat-given-requires
split_seat-given-requires g c =
    let i = c.requires.idle.1 in
    let v = c.args.place.now.me.0 in (
      c.draw_number.ensures.board ∙ (c.look_at_passes-passes.ensures.board ∙ c.requires.board.same),
      omega (arith, c.requires.board.words),
      rw (c.draw_number.ensures.number, c.look_at_passes-passes.ensures.same) (splits g.T.Stepper.relates g.T.Stepper.stands c.args.board.now.shared.key c.draw_number.new.place.id v.given (numbering v) c.requires.idle.0 i.free.start_is i.free.outside refl),
    )

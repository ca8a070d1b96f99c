use Rattle.std.proofs.Common.{◌≡◌, ◌∙◌, false, true, sym, arith}
use Rattle.ht_index.specs.declared.moves.Move.{Move}
use Rattle.ht_index.proofs.Rooms.{room_for_next}
use Rattle.ht_index.proofs.set_moves.reserve_all.Goals as goal
use Rattle.ht_index.proofs.set_moves.reserve_all.Goals.{then-one+in_ok-reserve, else-one}

abbrev none : Move
none = record { key = 0; task = record { 0 = 0 }; comes = false }

pub loop-one-preserved : goal.loop-one-preserved
loop-one-preserved c = elim c.if-one.branch [
  | then-one+in_ok-reserve w ↦ rw w.sets-is (record {
    sets = λ k. w.reserve.ensures.sets k ∙ c.loop-one.invariant.sets k;
    room = room_for_next c.loop-one.sets.items w.reserve.new.sets.items c.args.moves.now c.loop-one.one-index none c.loop-one-test.true w.reserve.ensures.kept c.loop-one.invariant.room (λ comes. w.in_ok-reserve.ensures.room);
  })
  | else-one w ↦ rw w.sets-is (record {
    sets = c.loop-one.invariant.sets;
    room = room_for_next c.loop-one.sets.items c.loop-one.sets.items c.args.moves.now c.loop-one.one-index none c.loop-one-test.true (λ k. omega arith) c.loop-one.invariant.room (λ comes. let no : true ≡ false = sym comes ∙ w.if-one.false in absurd cc);
  })
]

pub returns-clause-room : goal.returns-clause-room
returns-clause-room c = λ k d within. c.loop-one.invariant.room k d (omega arith)

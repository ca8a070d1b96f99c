use Rattle.std.proofs.Common.{◌≡◌, ◌+◌, ◌≤◌, false, take, get_or, ◌∙◌, arith}
use Rattle.std.proofs.lemmas.List.Sums.{sum_by_more, sum_by_more_le}
use Rattle.ht_index.specs.declared.moves.Move.{Move}
use Rattle.ht_index.specs.Kept.{coming, coming_by}
use Rattle.ht_index.proofs.asking.give_all_back.Goals as goal

abbrev none : Move
none = record { key = 0; task = record { 0 = 0 }; comes = false }

pub give_back-requires : goal.give_back-requires
give_back-requires c = λ k.
    let moves = c.args.moves.now in
    let i = c.loop-one.one-index in
    let some = c.loop-one.invariant.room k in
    let this : coming k (take i moves) + coming_by k (get_or moves i none) ≤ coming k moves = sum_by_more_le (coming_by k) moves i none c.loop-one-test.true in
    omega arith

pub loop-one-preserved : goal.loop-one-preserved
loop-one-preserved c = record {
  lists = λ k. c.give_back.ensures.lists k ∙ c.loop-one.invariant.lists k;
  room = λ k.
      let moves = c.args.moves.now in
      let i = c.loop-one.one-index in
      let some = c.loop-one.invariant.room k in
      let left = c.give_back.ensures.spare k in
      let next : coming k (take (i + 1) moves) ≡ coming k (take i moves) + coming_by k (get_or moves i none) = sum_by_more (coming_by k) moves i none c.loop-one-test.true in
      omega arith;
}

use Rattle.std.proofs.Common.{◌≡◌, ◌+◌, ◌≤◌, false, [], ◌∷◌, fold, take, get_or, ap, sym, ◌∙◌, arith}
use Rattle.std.proofs.lemmas.List.{take_more}
use Rattle.std.proofs.lemmas.List.Sums.{fold-append, sum_by_more, sum_by_more_le}
use Rattle.ht_index.specs.declared.moves.Move.{Move}
use Rattle.ht_index.specs.Indexes.{moved}
use Rattle.ht_index.specs.Kept.{coming, coming_by, list_at}
use Rattle.ht_index.proofs.moving.move_all.Goals as goal

abbrev none : Move
none = record { key = 0; task = record { 0 = 0 }; comes = false }

pub make-requires : goal.make-requires
make-requires c = λ k.
    let moves = c.args.moves.now in
    let i = c.loop-one.one-index in
    let some = c.loop-one.invariant.room k in
    let this : coming k (take i moves) + coming_by k (get_or moves i none) ≤ coming k moves = sum_by_more_le (coming_by k) moves i none c.loop-one-test.true in
    omega arith

pub loop-one-preserved : goal.loop-one-preserved
loop-one-preserved c = record {
  lists = λ k.
      let moves = c.args.moves.now in
      let i = c.loop-one.one-index in
      let one = get_or moves i none in
      let old = list_at k c.args.lists.now.items in
      c.make.ensures.lists k
      ∙ ap (λ tasks. moved k tasks one) (c.loop-one.invariant.lists k)
      ∙ sym (fold-append (moved k) old (take i moves) (one ∷ []))
      ∙ ap (λ ms. fold (moved k) old ms) (sym (take_more moves i none c.loop-one-test.true));
  room = λ k.
      let moves = c.args.moves.now in
      let i = c.loop-one.one-index in
      let some = c.loop-one.invariant.room k in
      let left = c.make.ensures.spare k in
      let next : coming k (take (i + 1) moves) ≡ coming k (take i moves) + coming_by k (get_or moves i none) = sum_by_more (coming_by k) moves i none c.loop-one-test.true in
      omega arith;
}

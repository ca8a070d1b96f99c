use Rattle.std.proofs.Common.{refl, ◌/◌, ◌%◌, ◌^◌, ◌<◌, arith, rules}
use Rattle.std.proofs.lemmas.Nat.{shr_le}
use Rattle.ht_index.proofs.FirstBits.{first_ahead, first_of_word, none_ahead}
use Rattle.ht_index.proofs.words.first_from.Goals as goal

pub overflow_add-result : goal.overflow_add-result
overflow_add-result c =
    let small : c.word.result / 2 ^ (c.args.from % 64) < 2 ^ 64 = omega (arith, shr_le c.word.result (c.args.from % 64), c.word.type_inv) in
    let first = first_ahead c.args.words.now c.args.from c.word.result c.word.ensures c.word.type_inv (omega arith) small in
    omega (arith, first.0, c.ranges.from.fits)

pub returns-then-bits-ne0 : goal.returns-then-bits-ne0
returns-then-bits-ne0 c =
    let small : c.word.result / 2 ^ (c.args.from % 64) < 2 ^ 64 = omega (arith, shr_le c.word.result (c.args.from % 64), c.word.type_inv) in
    (first_ahead c.args.words.now c.args.from c.word.result c.word.ensures c.word.type_inv (omega arith) small).1

pub loop-place-init : goal.loop-place-init
loop-place-init c = none_ahead c.args.words.now c.args.from c.word.result c.word.ensures (omega arith)

pub returns-then-bits-ne0-2 : goal.returns-then-bits-ne0-2
returns-then-bits-ne0-2 c = first_of_word c.args.words.now c.args.from c.loop-place.place _ refl (omega arith) (search rules) (omega arith) c.loop-place.invariant

use Rattle.std.proofs.Common.{ℕ, arith, sym, ◌∙◌, ◌≡◌, ◌<◌, ◌^◌, List, decimal}
use Rattle.ht_program.specs.Words.{IsNumber}
use Rattle.ht_program.proofs.Grammar.{same_number}
use Rattle.ht_program.proofs.words.number.Goals as goal

-- the word is no other number than the one that was read
the_same : (least most n m : ℕ) (word : List ℕ) → most < 2 ^ 64 → n < 2 ^ 64 → word ≡ decimal n → IsNumber least most word m → n ≡ m
the_same least most n m word bound small read is = same_number n m small (let high = is.small in omega (arith, high, bound)) (sym read ∙ is.spelled)

pub returns-then-n-least-clause-none : goal.returns-then-n-least-clause-none
returns-then-n-least-clause-none c = λ m is.
    let same = the_same _ _ c.in-Some.n m c.args.word.now (c.ranges.most).fits c.in-Some.ensures.some.0 c.in-Some.ensures.some.1 is in
    let great = is.great in
    let below = c.if-n-least.true in
    omega (arith, same, great, below)

pub returns-then-most-n-clause-none : goal.returns-then-most-n-clause-none
returns-then-most-n-clause-none c = λ m is.
    let same = the_same _ _ c.in-Some.n m c.args.word.now (c.ranges.most).fits c.in-Some.ensures.some.0 c.in-Some.ensures.some.1 is in
    let small = is.small in
    let over = c.if-most-n.true in
    omega (arith, same, small, over)

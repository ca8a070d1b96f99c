use Rattle.std.proofs.Common.{◌≡◌, ◌+◌, ◌*◌, ◌/◌, ◌%◌, ◌^◌, ◌∷◌, ap, ◌∙◌, arith, rules, w64}
use Rattle.std.specs.Prelude.{bit_and}
use Rattle.std.specs.Int.{bit_not, trailing_zeros}
use Rattle.ht_index.specs.Sets.{tasks_in, words_left}
use Rattle.ht_index.proofs.TasksLeft.{taken}
use Rattle.ht_index.proofs.rest.take_lowest.Goals as goal

pub returns : goal.returns
returns c = λ words.
    let bits = c.args.bits.now in
    let place = c.args.base / 64 in
    let base : 64 * place ≡ c.args.base = omega (arith, c.requires.whole) in
    taken words place bits c.requires.some (search rules)
    ∙ ap (λ n. record { 0 = n + trailing_zeros w64 bits } ∷ tasks_in (words_left place (bit_and bits (bit_not w64 (1 * 2 ^ trailing_zeros w64 bits % 2 ^ 64))) words)) base

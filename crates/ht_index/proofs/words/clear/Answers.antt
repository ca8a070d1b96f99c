use Rattle.std.proofs.Common.{◌<◌, ◌/◌, length, arith}
use Rattle.std.proofs.lemmas.List.{get_or_read}
use Rattle.ht_index.proofs.Setting.{bit_cleared}
use Rattle.ht_index.proofs.words.clear.Goals as goal

pub returns-then-place-len-clause-bits : goal.returns-then-place-len-clause-bits
returns-then-place-len-clause-bits c =
    let words = c.args.words.now.items in
    let low : c.args.number / 64 < length words = omega (arith, c.len.ensures, c.args.words.now.ok.0) in
    bit_cleared words c.args.number c.index-word.result.now low (get_or_read words (c.args.number / 64) c.index-word.result.now low c.index-word.ensures 0)

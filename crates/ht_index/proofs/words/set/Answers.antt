use Rattle.std.proofs.Common.{◌/◌, arith}
use Rattle.std.proofs.lemmas.List.{get_or_read}
use Rattle.ht_index.proofs.Setting.{bit_put}
use Rattle.ht_index.proofs.words.set.Goals as goal

pub returns-clause-bits : goal.returns-clause-bits
returns-clause-bits c =
    let words = c.args.words.now.items in
    bit_put words c.args.number c.index-word.result.now (omega arith) (get_or_read words (c.args.number / 64) c.index-word.result.now (omega arith) c.index-word.ensures 0)

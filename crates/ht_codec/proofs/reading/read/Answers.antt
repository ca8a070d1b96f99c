use Rattle.std.proofs.Common.{arith, subst}
use Rattle.ht_codec.specs.Records.{Answers, IsBytes}
use Rattle.ht_codec.proofs.Spellings.{found_from, refused_from, refused_is_read, spelled_is_read, valid_from}
use Rattle.ht_codec.proofs.reading.read.Goals as goal

pub returns : goal.returns
returns c =
    let are : IsBytes c.args.bytes.now = λ i. omega (arith, c.type_inv.bytes i) in
    let found = found_from c.args.bytes.now c.read_whole.result are c.read_whole.ensures in
    record {
      found = found;
      valid = valid_from c.args.bytes.now c.read_whole.result found;
      only = λ r spells. subst (λ a. Answers c.read_whole.result a) (spelled_is_read c.args.bytes.now r spells) c.read_whole.ensures;
      refused = refused_from c.args.bytes.now c.read_whole.result are c.read_whole.ensures;
      refuses = λ why refuses. subst (λ a. Answers c.read_whole.result a) (refused_is_read c.args.bytes.now why refuses) c.read_whole.ensures;
    }

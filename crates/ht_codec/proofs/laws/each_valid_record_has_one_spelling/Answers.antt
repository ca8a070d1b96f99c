use Rattle.std.proofs.Common.{refl, sym, ◌∙◌}
use Rattle.ht_codec.specs.Records.{entry}
use Rattle.ht_codec.proofs.Holding.{valid_fits}
use Rattle.ht_codec.proofs.laws.each_valid_record_has_one_spelling.Goals as goal

pub returns : goal.returns
returns c = record { some = λ r valid holds. (entry.text r, (valid_fits r valid holds, refl)); one = λ r a b p q. p.1 ∙ sym q.1 }

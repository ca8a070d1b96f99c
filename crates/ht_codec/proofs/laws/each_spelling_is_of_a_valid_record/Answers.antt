use Rattle.ht_codec.proofs.Holding.{fits_holds}
use Rattle.ht_codec.proofs.Ranges.{fits_is_valid}
use Rattle.ht_codec.proofs.laws.each_spelling_is_of_a_valid_record.Goals as goal

pub returns : goal.returns
returns c = record {
  valid = λ r bytes spells. fits_is_valid r spells.0;
  typed = λ r bytes spells. fits_holds r spells.0;
  asked = λ at caller retry task command valid. valid;
}

use Rattle.ht_codec.proofs.Sizes.{first_byte, spelling_is_short}
use Rattle.ht_codec.proofs.laws.spellings_are_short.Goals as goal

pub returns : goal.returns
returns c = record { length = spelling_is_short; first = first_byte }

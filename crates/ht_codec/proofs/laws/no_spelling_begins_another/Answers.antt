use Rattle.ht_codec.proofs.Spellings.{one_record}
use Rattle.ht_codec.proofs.laws.no_spelling_begins_another.Goals as goal

pub returns : goal.returns
returns c = one_record

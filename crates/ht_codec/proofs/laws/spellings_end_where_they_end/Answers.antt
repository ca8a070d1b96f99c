use Rattle.ht_codec.proofs.Spellings.{cut_is_short, then_trailing}
use Rattle.ht_codec.proofs.laws.spellings_end_where_they_end.Goals as goal

pub returns : goal.returns
returns c = record { cut = cut_is_short; trailing = then_trailing }

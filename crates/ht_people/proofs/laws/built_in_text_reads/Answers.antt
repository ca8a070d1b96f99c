use Rattle.ht_people.proofs.BuiltIn.{built_in_is_answered, built_in_is_read}
use Rattle.ht_people.proofs.laws.built_in_text_reads.Goals as goal

pub returns : goal.returns
returns c = record { reads = built_in_is_read; answered = built_in_is_answered }

use Rattle.ht_models.proofs.BuiltIn.{built_in, built_in_answered}
use Rattle.ht_models.proofs.laws.built_in_text_reads.Goals as goal

pub returns : goal.returns
returns c = record { reads = built_in; answered = built_in_answered }

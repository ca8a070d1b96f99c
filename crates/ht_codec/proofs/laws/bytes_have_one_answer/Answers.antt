use Rattle.ht_codec.proofs.Spellings.{not_memory, not_refused, one_refusal, some_answer}
use Rattle.ht_codec.proofs.laws.bytes_have_one_answer.Goals as goal

pub returns : goal.returns
returns c = record { some = some_answer; not_both = not_refused; one = one_refusal; not_memory = not_memory }

use Rattle.ht_models.proofs.Passing.{one_answer}
use Rattle.ht_models.proofs.laws.a_models_text_has_one_answer.Goals as goal

pub returns : goal.returns
returns c = one_answer

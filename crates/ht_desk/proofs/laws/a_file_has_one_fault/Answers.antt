use Rattle.ht_desk.proofs.OneFault.{one_fault}
use Rattle.ht_desk.proofs.laws.a_file_has_one_fault.Goals as goal

pub returns : goal.returns
returns c texts file fault other = one_fault c.a_models_text_has_one_answer.ensures c.a_people_text_has_one_answer.ensures texts file fault other

use Rattle.ht_people.proofs.Passing.{one_answer}
use Rattle.ht_people.proofs.laws.a_people_text_has_one_answer.Goals as goal

pub returns : goal.returns
returns c = one_answer

use Rattle.ht_desk.proofs.Office.{led_once}
use Rattle.ht_desk.proofs.laws.the_records_of_an_office_lead_to_one_state.Goals as goal

pub returns : goal.returns
returns c = led_once c.a_models_text_has_one_answer.ensures c.a_people_text_has_one_answer.ensures

use Rattle.ht_desk.proofs.Office.{no_fault}
use Rattle.ht_desk.proofs.laws.the_journal_of_an_office_has_no_fault.Goals as goal

pub returns : goal.returns
returns c texts records t file fault spelled office found fails =
    no_fault c.a_models_text_has_one_answer.ensures c.a_people_text_has_one_answer.ensures texts records t spelled office file found fault fails

use Rattle.std.proofs.Common.{inl}
use Rattle.ht_desk.proofs.Office.{no_fault}
use Rattle.ht_desk.proofs.laws.what_a_crash_leaves_of_a_step_has_no_fault.Goals as goal

pub returns : goal.returns
returns g c texts s mid t e old new leaves tells image left fault fails =
    let office = (leaves.opens tells).each image left in
    no_fault c.a_models_text_has_one_answer.ensures c.a_people_text_has_one_answer.ensures texts office.0 office.1 office.2 office.3 image (inl office.4) fault fails

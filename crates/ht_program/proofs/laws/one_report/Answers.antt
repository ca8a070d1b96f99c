use Rattle.ht_program.proofs.OneReport.{one_report_of}
use Rattle.ht_program.proofs.laws.one_report.Goals as goal

pub returns : goal.returns
returns c = one_report_of c.a_models_text_has_one_answer.ensures c.a_people_text_has_one_answer.ensures c.the_records_of_an_office_lead_to_one_state.ensures c.a_load_has_one_line.ensures

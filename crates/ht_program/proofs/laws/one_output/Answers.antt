use Rattle.ht_program.proofs.OneOutput.{one_output_of}
use Rattle.ht_program.proofs.laws.one_output.Goals as goal

pub returns : goal.returns
returns c = one_output_of c.one_outcome.ensures.left c.one_outcome.ensures.reply c.one_outcome.ensures.after c.the_records_of_an_office_lead_to_one_state.ensures

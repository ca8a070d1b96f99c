use Rattle.ht_machine.proofs.Timing.{same_answers}
use Rattle.ht_machine.proofs.laws.the_timer_changes_no_answer.Goals as goal

pub returns : goal.returns
returns c = λ t few more a b adds. same_answers t few more a b adds

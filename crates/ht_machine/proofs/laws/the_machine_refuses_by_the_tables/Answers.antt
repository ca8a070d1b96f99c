use Rattle.ht_machine.proofs.RefusingItself.{answers_itself}
use Rattle.ht_machine.proofs.laws.the_machine_refuses_by_the_tables.Goals as goal

pub returns : goal.returns
returns c = answers_itself

use Rattle.ht_escalate.proofs.TakenTables.{one_taking}
use Rattle.ht_escalate.proofs.laws.a_deadline_is_taken_in_one_way.Goals as goal

pub returns : goal.returns
returns c = one_taking

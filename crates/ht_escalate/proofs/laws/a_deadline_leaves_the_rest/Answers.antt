use Rattle.ht_escalate.proofs.TakenTables.{takes_leaves}
use Rattle.ht_escalate.proofs.laws.a_deadline_leaves_the_rest.Goals as goal

pub returns : goal.returns
returns c = takes_leaves

use Rattle.ht_escalate.proofs.TakenTables.{takes_at_moment}
use Rattle.ht_escalate.proofs.laws.a_deadline_looks_at_no_last_moment.Goals as goal

pub returns : goal.returns
returns c = λ at task place last u v takes. takes_at_moment at task place last u v takes

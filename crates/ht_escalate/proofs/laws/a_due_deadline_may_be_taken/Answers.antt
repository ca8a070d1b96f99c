use Rattle.ht_escalate.proofs.OpenDues.{due_of_first, open_of_due}
use Rattle.ht_escalate.proofs.laws.a_due_deadline_may_be_taken.Goals as goal

pub returns : goal.returns
returns c = λ u by due sound is kind. open_of_due u due sound (due_of_first u by due is).0 kind

use Rattle.ht_machine.proofs.Left.{applied_once, applies_again}
use Rattle.ht_machine.proofs.laws.a_record_leads_to_the_same.Goals as goal

pub returns-clause-again : goal.returns-clause-again
returns-clause-again c = λ t e k r u d. applies_again t e k r u d

pub returns-clause-once : goal.returns-clause-once
returns-clause-once c = λ t k u v a b. applied_once t k u v a b

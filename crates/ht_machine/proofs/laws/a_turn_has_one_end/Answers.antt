use Rattle.ht_machine.proofs.OneTurn.{one_turn}
use Rattle.ht_machine.proofs.laws.a_turn_has_one_end.Goals as goal

pub returns-clause-tables : goal.returns-clause-tables
returns-clause-tables c = λ t u v n ds es a b. (one_turn n t u v ds es a b).after

pub returns-clause-taken : goal.returns-clause-taken
returns-clause-taken c = λ t u v n ds es a b. (one_turn n t u v ds es a b).dues

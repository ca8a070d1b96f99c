use Rattle.ht_compose.proofs.AgingRows.{was_due}
use Rattle.ht_compose.proofs.laws.what_is_due_only_goes.Goals as goal

pub returns : goal.returns
returns c = λ models old new due ages there. was_due old new ages models due there

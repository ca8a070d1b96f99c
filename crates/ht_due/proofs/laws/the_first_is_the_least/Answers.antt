use Rattle.ht_due.proofs.Leasts.{least_none, least_some}
use Rattle.ht_due.proofs.laws.the_first_is_the_least.Goals as goal

pub returns : goal.returns
returns c = record { some = least_some; none = least_none }

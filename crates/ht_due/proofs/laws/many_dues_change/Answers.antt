use Rattle.ht_due.proofs.Members.{ascends_merged, has_merged}
use Rattle.ht_due.proofs.laws.many_dues_change.Goals as goal

pub returns : goal.returns
returns c = record { ascend = ascends_merged; has = has_merged }

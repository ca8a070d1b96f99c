use Rattle.ht_aggregate.proofs.Unique.{one_result}
use Rattle.ht_aggregate.proofs.laws.each_aggregate_has_one_result.Goals as goal

pub returns : goal.returns
returns c = one_result

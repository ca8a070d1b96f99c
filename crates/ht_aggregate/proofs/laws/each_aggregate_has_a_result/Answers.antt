use Rattle.ht_aggregate.proofs.Existing.{some_result}
use Rattle.ht_aggregate.proofs.laws.each_aggregate_has_a_result.Goals as goal

pub returns : goal.returns
returns c = some_result

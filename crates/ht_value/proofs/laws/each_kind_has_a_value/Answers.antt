use Rattle.ht_value.proofs.Agreeing.{has_kind}
use Rattle.ht_value.proofs.laws.each_kind_has_a_value.Goals as goal

pub returns : goal.returns
returns c = has_kind

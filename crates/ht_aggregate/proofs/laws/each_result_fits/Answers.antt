use Rattle.ht_aggregate.proofs.Fitting.{result_kind, result_short}
use Rattle.ht_aggregate.proofs.laws.each_result_fits.Goals as goal

pub returns : goal.returns
returns c = record { kind = result_kind; short = result_short }

use Rattle.std.proofs.Common.{rules}
use Rattle.std.proofs.lemmas.Iterator.{YieldsList-from_slice}
use Rattle.std.proofs.lemmas.Iterator.Consumers.{YieldsList-from_filter_map, reduce_from_yields_List}
use Rattle.ht_aggregate.specs.Given.{number_in}
use Rattle.ht_aggregate.proofs.Extremes.{least_of, lesser}
use Rattle.ht_aggregate.proofs.numbers.least.Goals as goal

pub returns : goal.returns
returns c = least_of _ _ (reduce_from_yields_List lesser c.filter_map.result _ c.min.ensures.ran (YieldsList-from_filter_map _ number_in (YieldsList-from_slice c.args.values.now cc) c.filter_map.ensures.closure (λ x r q k. search rules)))

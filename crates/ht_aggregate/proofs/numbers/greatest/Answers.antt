use Rattle.std.proofs.Common.{rules}
use Rattle.std.proofs.lemmas.Iterator.{YieldsList-from_slice}
use Rattle.std.proofs.lemmas.Iterator.Consumers.{YieldsList-from_filter_map, reduce_from_yields_List}
use Rattle.ht_aggregate.specs.Given.{number_in}
use Rattle.ht_aggregate.proofs.Extremes.{greater, greatest_of}
use Rattle.ht_aggregate.proofs.numbers.greatest.Goals as goal

pub returns : goal.returns
returns c = greatest_of _ _ (reduce_from_yields_List greater c.filter_map.result _ c.max.ensures.ran (YieldsList-from_filter_map _ number_in (YieldsList-from_slice c.args.values.now cc) c.filter_map.ensures.closure (λ x r q k. search rules)))

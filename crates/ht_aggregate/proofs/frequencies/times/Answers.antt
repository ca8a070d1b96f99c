use Rattle.std.proofs.Common.{rules, tests, ◌∙◌}
use Rattle.std.proofs.lemmas.Iterator.{YieldsList-from_slice}
use Rattle.std.proofs.lemmas.Iterator.Consumers.{YieldsList-from_filter, count_from_yields_List}
use Rattle.ht_aggregate.specs.Searching.{is_text}
use Rattle.ht_aggregate.proofs.Counted.{length-filter-is_text}
use Rattle.ht_aggregate.proofs.frequencies.times.Goals as goal

pub returns : goal.returns
returns c =
    count_from_yields_List c.filter.result _ c.count.ensures.ran (YieldsList-from_filter _ (is_text c.args.text.now) (YieldsList-from_slice c.args.values.now cc) c.filter.ensures.closure (λ x b q k. search (rules, tests)))
    ∙ length-filter-is_text c.args.text.now c.args.values.now

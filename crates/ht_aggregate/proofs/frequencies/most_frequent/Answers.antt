use Rattle.std.proofs.Common.{subst, option_map, max, fold}
use Rattle.ht_aggregate.specs.Frequencies.{IsMostFrequent}
use Rattle.ht_aggregate.specs.Searching.{IsOneOrNone, OccursAlone, counts}
use Rattle.ht_aggregate.specs.Given.{texts}
use Rattle.ht_aggregate.proofs.Ranked.{IsOneOrNone-like, alone_is_most, most_is_alone}
use Rattle.ht_aggregate.proofs.frequencies.most_frequent.Goals as goal

pub returns : goal.returns
returns c =
    let ts = texts c.args.values.now in
    let o = option_map (λ t. t.now) c.only_one.result in
    IsOneOrNone-like (OccursAlone ts (fold max 0 (counts ts))) (IsMostFrequent ts) (alone_is_most ts) (most_is_alone ts) o
    (subst (λ n. IsOneOrNone (OccursAlone ts n) o) c.greatest_count.ensures c.only_one.ensures)

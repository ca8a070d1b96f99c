use Rattle.std.proofs.Common.{subst, option_map, min, fold, length}
use Rattle.ht_aggregate.specs.Frequencies.{IsLeastFrequent}
use Rattle.ht_aggregate.specs.Searching.{IsOneOrNone, OccursAlone, counts}
use Rattle.ht_aggregate.specs.Given.{text_in, texts}
use Rattle.ht_aggregate.proofs.Ranked.{IsOneOrNone-like, alone_is_least, least_is_alone}
use Rattle.ht_aggregate.proofs.Steps.{length-filter_map}
use Rattle.ht_aggregate.proofs.frequencies.least_frequent.Goals as goal

pub returns : goal.returns
returns c =
    let vs = c.args.values.now in
    let ts = texts vs in
    let o = option_map (λ t. t.now) c.only_one.result in
    IsOneOrNone-like (OccursAlone ts (fold min (length vs) (counts ts))) (IsLeastFrequent ts) (alone_is_least ts (length vs)) (λ t. least_is_alone ts (length vs) t (length-filter_map text_in vs)) o
    (subst (λ n. IsOneOrNone (OccursAlone ts n) o) c.least_count.ensures c.only_one.ensures)

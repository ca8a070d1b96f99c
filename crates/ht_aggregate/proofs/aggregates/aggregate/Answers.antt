use Rattle.std.proofs.Common.{List, IfOk, ap, option_map, subst, sym}
use Rattle.ht_base.specs.Kinds.{kind_of_how}
use Rattle.ht_base.specs.declared.how.How.{How}
use Rattle.ht_base.specs.declared.value.Value.{Value}
use Rattle.ht_aggregate.specs.Aggregates.{IsAggregate, NeedsValues}
use Rattle.ht_aggregate.specs.Frequencies.{IsElected, IsLeastFrequent, IsMostFrequent}
use Rattle.ht_aggregate.specs.Searching.{IsOneOrNone}
use Rattle.ht_aggregate.specs.Given.{texts}
use Rattle.ht_aggregate.specs.Numbers.{IsAverage, IsGreatest, IsLeast}
use Rattle.ht_aggregate.proofs.Results.{none_exactly, text_found}
use Rattle.ht_aggregate.proofs.Unique.{no_average, no_greatest, no_least}
use Rattle.ht_aggregate.proofs.aggregates.aggregate.Goals as goal

pub returns-in-MostFrequent-clause-value : goal.returns-in-MostFrequent-clause-value
returns-in-MostFrequent-clause-value c =
    let found = subst (λ (vs : List Value). IsOneOrNone (IsMostFrequent (texts vs)) (option_map (λ t. t.now) c.most_frequent.result)) c.as_slice-values.ensures c.most_frequent.ensures in
    subst (λ (h : How). IfOk c.text_or_empty.result (IsAggregate h c.args.values.now)) (sym c.in-MostFrequent.is)
    (text_found (IsMostFrequent (texts c.args.values.now)) _ _ found c.text_or_empty.ensures)

pub returns-in-LeastFrequent-clause-value : goal.returns-in-LeastFrequent-clause-value
returns-in-LeastFrequent-clause-value c =
    let found = subst (λ (vs : List Value). IsOneOrNone (IsLeastFrequent (texts vs)) (option_map (λ t. t.now) c.least_frequent.result)) c.as_slice-values.ensures c.least_frequent.ensures in
    subst (λ (h : How). IfOk c.text_or_empty-in-LeastFrequent.result (IsAggregate h c.args.values.now)) (sym c.in-LeastFrequent.is)
    (text_found (IsLeastFrequent (texts c.args.values.now)) _ _ found c.text_or_empty-in-LeastFrequent.ensures)

pub returns-in-VoteOnString-clause-value : goal.returns-in-VoteOnString-clause-value
returns-in-VoteOnString-clause-value c =
    let percent = c.in-VoteOnString.percent in
    let found = subst (λ (vs : List Value). IsOneOrNone (IsElected percent (texts vs)) (option_map (λ t. t.now) c.elected.result)) c.as_slice-values.ensures c.elected.ensures in
    subst (λ (h : How). IfOk c.text_or_empty-in-VoteOnString.result (IsAggregate h c.args.values.now)) (sym c.in-VoteOnString.is)
    (text_found (IsElected percent (texts c.args.values.now)) _ _ found c.text_or_empty-in-VoteOnString.ensures)

pub returns-in-Min-clause-none : goal.returns-in-Min-clause-none
returns-in-Min-clause-none c =
    let is = c.in-Min.is in
    none_exactly IsLeast no_least c.args.how.now (subst NeedsValues (sym is) tt) (ap kind_of_how is) _ _ c.requires c.as_slice-values.ensures _ c.least.ensures _ c.map.ensures.variant

pub returns-in-Max-clause-none : goal.returns-in-Max-clause-none
returns-in-Max-clause-none c =
    let is = c.in-Max.is in
    none_exactly IsGreatest no_greatest c.args.how.now (subst NeedsValues (sym is) tt) (ap kind_of_how is) _ _ c.requires c.as_slice-values.ensures _ c.greatest.ensures _ c.map-in-Max.ensures.variant

pub returns-in-Avg-clause-none : goal.returns-in-Avg-clause-none
returns-in-Avg-clause-none c =
    let is = c.in-Avg.is in
    none_exactly IsAverage no_average c.args.how.now (subst NeedsValues (sym is) tt) (ap kind_of_how is) _ _ c.requires c.as_slice-values.ensures _ c.average.ensures _ c.map-in-Avg.ensures.variant

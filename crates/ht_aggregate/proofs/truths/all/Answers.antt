use Rattle.std.proofs.Common.{◌<◌, ◌∙◌, subst, sym}
use Rattle.std.proofs.lemmas.Bool.{eq-eqb, eqb-true}
use Rattle.ht_aggregate.proofs.Counted.{all_counted, counted_all}
use Rattle.ht_aggregate.proofs.truths.all.Goals as goal

pub returns-then-trues-gt0 : goal.returns-then-trues-gt0
returns-then-trues-gt0 c = (
  λ none. all_counted _ (subst (λ n. 0 < n) c.trues.ensures c.if-trues-gt0.true) (sym c.falses.ensures ∙ eqb-true _ 0 none),
  λ all. eq-eqb _ 0 (c.falses.ensures ∙ (counted_all _ all).1),
)

use Rattle.std.proofs.Common.{sym, subst, ◌<◌}
use Rattle.std.proofs.lemmas.Bool.{lt-ltb, ltb-true}
use Rattle.ht_aggregate.proofs.Counted.{counted_true, true_counted}
use Rattle.ht_aggregate.proofs.truths.any.Goals as goal

pub returns : goal.returns
returns c = (
  λ some. counted_true _ (subst (λ n. 0 < n) c.trues.ensures (ltb-true 0 _ some)),
  λ any. lt-ltb 0 _ (subst (λ n. 0 < n) (sym c.trues.ensures) (true_counted _ any)),
)

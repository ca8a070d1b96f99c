use Rattle.std.proofs.Common.{◌*◌, ◌<◌, arith, length, subst, sym}
use Rattle.ht_aggregate.specs.Given.{truths}
use Rattle.ht_aggregate.specs.Truths.{trues}
use Rattle.ht_aggregate.proofs.OneKind.{length-truths}
use Rattle.ht_aggregate.proofs.truths.vote.Goals as goal

pub returns-then-trues-falses : goal.returns-then-trues-falses
returns-then-trues-falses c =
    let ts = truths c.args.values.now in
    let percent = c.args.percent in
    let all = length-truths c.args.values.now c.requires in (
      λ enough. record {
        most = omega arith;
        enough = subst (λ n. percent * n < 100 * trues ts) (sym all) (subst (λ k. percent * length c.args.values.now < 100 * k) c.trues-trues.ensures (c.is_enough.ensures.0 enough));
      },
      λ for. c.is_enough.ensures.1 (subst (λ k. percent * length c.args.values.now < 100 * k) (sym c.trues-trues.ensures) (subst (λ n. percent * n < 100 * trues ts) all for.enough)),
    )

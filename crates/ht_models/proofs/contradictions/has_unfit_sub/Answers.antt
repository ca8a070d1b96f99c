use Rattle.std.proofs.Common.{◌≡◌, ◌∙◌, ap, arith}
use Rattle.std.proofs.lemmas.Grind.{common_steps}
use Rattle.ht_base.specs.Values.{Ascend}
use Rattle.ht_entries.specs.ModelEntries.{ModelEntry}
use Rattle.ht_models.proofs.Elements.{all_behind, all_more}
use Rattle.ht_models.proofs.contradictions.has_unfit_sub.Goals as goal

pub loop-sub-preserved : goal.loop-sub-preserved
loop-sub-preserved c =
    let subs = c.args.entry.now.subs in
    let same : c.deref-sub-items.result.now ≡ subs = c.deref-sub-items.ensures.value ∙ ap (λ (e : ModelEntry). e.subs) c.entry.view_is in
    record {
      rest = grind (arith, common_steps);
      order = all_more (λ s. Ascend s.input) subs c.loop-sub.sub-index c.sub-item.result (rw (← same) c.loop-sub-test.true) (rw (← same) c.sub-item.is) c.loop-sub.invariant.order c.misses_parts.ensures.order;
    }

pub returns-clause-order : goal.returns-clause-order
returns-clause-order c =
    let same : c.deref-sub-items.result.now ≡ c.args.entry.now.subs = c.deref-sub-items.ensures.value ∙ ap (λ (e : ModelEntry). e.subs) c.entry.view_is in
    λ no. all_behind (λ s. Ascend s.input) c.args.entry.now.subs c.loop-sub.sub-index (rw (← same) c.loop-sub-test.false) c.loop-sub.invariant.order

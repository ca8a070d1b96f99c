use Rattle.std.proofs.Common.{◌∙◌, sym}
use Rattle.ht_models.specs.Contradictions.{is_contradicted}
use Rattle.ht_entries.specs.SubEntries.{AreInOrder}
use Rattle.ht_models.proofs.Elements.{all_behind, all_more}
use Rattle.ht_models.proofs.FirstOnes.{first_one, none_found, none_more}
use Rattle.ht_models.proofs.contradictions.first_contradicted.Goals as goal

pub returns-then-is_contradicted-clause-first : goal.returns-then-is_contradicted-clause-first
returns-then-is_contradicted-clause-first c =
    let t = c.args.entries.now in
    first_one (is_contradicted t) t c.loop-place.place _ c.loop-place-test.true c.index-entries-place.is (sym c.is_contradicted.ensures.value ∙ c.if-is_contradicted.true) c.loop-place.invariant.none

pub loop-place-preserved : goal.loop-place-preserved
loop-place-preserved c =
    let t = c.args.entries.now in
    record {
      none = none_more (is_contradicted t) t c.loop-place.place _ c.loop-place-test.true c.index-entries-place.is (sym c.is_contradicted.ensures.value ∙ c.if-is_contradicted.false) c.loop-place.invariant.none;
      order = all_more (λ e. AreInOrder e.subs) t c.loop-place.place _ c.loop-place-test.true c.index-entries-place.is c.loop-place.invariant.order (c.is_contradicted.ensures.order c.if-is_contradicted.false);
    }

pub returns-clause-first : goal.returns-clause-first
returns-clause-first c = none_found (is_contradicted c.args.entries.now) c.args.entries.now c.loop-place.place c.loop-place-test.false c.loop-place.invariant.none

pub returns-clause-order : goal.returns-clause-order
returns-clause-order c = all_behind (λ e. AreInOrder e.subs) c.args.entries.now c.loop-place.place c.loop-place-test.false c.loop-place.invariant.order

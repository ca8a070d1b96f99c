use Rattle.std.proofs.Common.{◌∙◌, sym}
use Rattle.ht_models.specs.Repeats.{repeats_name}
use Rattle.ht_models.proofs.FirstOnes.{first_one, none_found, none_more}
use Rattle.ht_models.proofs.index.first_that_repeats.Goals as goal

pub returns-then-branch : goal.returns-then-branch
returns-then-branch c =
    let t = c.args.entries.now in
    first_one repeats_name t c.loop-place.place _ c.loop-place-test.true c.index-entries-place.is (sym c.in_ok-repeats_name.ensures ∙ c.if-branch.true) c.loop-place.invariant

pub loop-place-preserved : goal.loop-place-preserved
loop-place-preserved c =
    let t = c.args.entries.now in
    none_more repeats_name t c.loop-place.place _ c.loop-place-test.true c.index-entries-place.is (sym c.in_ok-repeats_name.ensures ∙ c.if-branch.false) c.loop-place.invariant

pub returns : goal.returns
returns c = none_found repeats_name c.args.entries.now c.loop-place.place c.loop-place-test.false c.loop-place.invariant

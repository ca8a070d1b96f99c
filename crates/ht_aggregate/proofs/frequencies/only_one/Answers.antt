use Rattle.std.proofs.Common.{◌+◌, drop, ap, ◌∙◌, subst, sym, arith}
use Rattle.std.specs.Prelude.{option_map}
use Rattle.std.specs.List.{cons_option, filter_map}
use Rattle.std.proofs.lemmas.List.{at_drop_all}
use Rattle.ht_aggregate.specs.Given.{text_in, texts}
use Rattle.ht_aggregate.proofs.Sought.{IsSought, sought_all, sought_found, sought_past, sought_two}
use Rattle.ht_aggregate.proofs.Steps.{given_more}
use Rattle.ht_aggregate.proofs.frequencies.only_one.Goals as goal

pub loop-value-preserved-then-times-count : goal.loop-value-preserved-then-times-count
loop-value-preserved-then-times-count c =
    let vs = c.args.values.now in
    let i = c.loop-value.value-index in
    let here = given_more text_in vs i c.value-item.result _ c.loop-value-test.true c.value-item.is c.text_in.ensures in
    let next = here ∙ ap (λ o. cons_option (option_map (λ t. t.now) o) (texts (drop (i + 1) vs))) c.in-Some.is in
    sought_past (texts vs) c.args.count _ _ _ (subst (IsSought (texts vs) c.args.count _) next c.loop-value.invariant) (λ e. c.if-times-count.true (c.times.ensures ∙ e))

pub returns-then-is_other : goal.returns-then-is_other
returns-then-is_other c =
    let vs = c.args.values.now in
    let i = c.loop-value.value-index in
    let here = given_more text_in vs i c.value-item.result _ c.loop-value-test.true c.value-item.is c.text_in.ensures in
    let next = here ∙ ap (λ o. cons_option (option_map (λ t. t.now) o) (texts (drop (i + 1) vs))) c.in-Some.is in
    sought_two (texts vs) c.args.count _ _ _ (subst (IsSought (texts vs) c.args.count _) next c.loop-value.invariant) (sym c.times.ensures ∙ c.if-times-count.false) (sym c.is_other.ensures ∙ c.if-is_other.true)

pub loop-value-preserved : goal.loop-value-preserved
loop-value-preserved c =
    let vs = c.args.values.now in
    let i = c.loop-value.value-index in
    let here = given_more text_in vs i c.value-item.result _ c.loop-value-test.true c.value-item.is c.text_in.ensures in
    let next = here ∙ ap (λ o. cons_option (option_map (λ t. t.now) o) (texts (drop (i + 1) vs))) c.in-Some.is in
    sought_found (texts vs) c.args.count _ _ _ (subst (IsSought (texts vs) c.args.count _) next c.loop-value.invariant) (sym c.times.ensures ∙ c.if-times-count.false) (sym c.is_other.ensures ∙ c.if-is_other.false)

pub returns : goal.returns
returns c =
    let vs = c.args.values.now in
    sought_all (texts vs) c.args.count _ (subst (IsSought (texts vs) c.args.count _) (at_drop_all (filter_map text_in) vs c.loop-value.value-index (omega arith)) c.loop-value.invariant)

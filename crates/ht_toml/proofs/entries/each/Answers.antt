use Rattle.std.proofs.Common.{◌≤◌, List, length, map, refl, sym, ◌∙◌, arith}
use Rattle.std.proofs.lemmas.List.{length-map, take_all}
use Rattle.toml.specs.Data.{Data}
use Rattle.toml.specs.View.{view}
use Rattle.ht_toml.proofs.ReadEntries.{all_there, each_more, each_stops, first_misshapen, seen_at}
use Rattle.ht_toml.proofs.entries.each.Goals as goal

pub returns-in-None-clause-none : goal.returns-in-None-clause-none
returns-in-None-clause-none g c =
    let at = seen_at view c.args.values.now c.loop-place.place c.index-values-place.result c.loop-place-test.true c.index-values-place.is in
    λ place e. each_stops g.E.Shape.of (map view c.args.values.now) c.loop-place.place (view c.index-values-place.result) at (sym c.in_ok-entry.ensures ∙ c.in-None.is)

pub returns-in-None-clause-passes : goal.returns-in-None-clause-passes
returns-in-None-clause-passes g c =
    let at = seen_at view c.args.values.now c.loop-place.place c.index-values-place.result c.loop-place-test.true c.index-values-place.is in
    λ _. (c.loop-place.place, refl, first_misshapen g.E.Shape.of (map view c.args.values.now) c.loop-place.place (view c.index-values-place.result) c.loop-place.entries.items at (sym c.in_ok-entry.ensures ∙ c.in-None.is) c.loop-place.invariant)

pub loop-place-preserved : goal.loop-place-preserved
loop-place-preserved g c =
    let at = seen_at view c.args.values.now c.loop-place.place c.index-values-place.result c.loop-place-test.true c.index-values-place.is in
    each_more g.E.Shape.of (map view c.args.values.now) c.loop-place.place (view c.index-values-place.result) c.loop-place.entries.items c.in-Some.entry at (sym c.in_ok-entry.ensures ∙ c.in-Some.is) c.loop-place.invariant
    ∙ rw c.in_ok-push-in-Some.ensures.items

pub returns-clause-passes : goal.returns-clause-passes
returns-clause-passes g c =
    let ds : List Data = map view c.args.values.now in
    let past : length ds ≤ c.loop-place.place = omega (arith, length-map c.args.values.now view, c.loop-place-test.false) in
    all_there g.E.Shape.of ds c.loop-place.entries.items (rw (take_all c.loop-place.place ds past) at c.loop-place.invariant)

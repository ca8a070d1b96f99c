use Rattle.std.proofs.Common.{◌≡◌, ◌∙◌, ℕ, List, refl, sym}
use Rattle.std.specs.BTreeMap.{BTreeMap, get}
use Rattle.std.specs.Cmp.Lexicographic.{slice_cmp}
use Rattle.std.specs.List.{list_any}
use Rattle.std.specs.Ordering.{nat_cmp}
use Rattle.std.specs.Prelude.{is_none}
use Rattle.ht_base.specs.Indexes.{IsIndex}
use Rattle.ht_entries.specs.ModelEntries.{ModelEntry}
use Rattle.ht_models.specs.SubTrees.{names_of, names_unknown_model}
use Rattle.ht_models.proofs.FirstOnes.{first_one, none_found, none_more}
use Rattle.ht_models.proofs.index.check_known.Goals as goal

by_index : (places : BTreeMap (List ℕ) ℕ) (t : List ModelEntry) (m : ModelEntry) → IsIndex places (names_of t) → list_any (λ s. is_none (get (slice_cmp nat_cmp) places s.model)) m.subs ≡ names_unknown_model t m
by_index places t m index = λ i. list_any (λ s. is_none (index s.model i)) m.subs

pub returns-then-names_unknown_model : goal.returns-then-names_unknown_model
returns-then-names_unknown_model c =
    let t = c.args.entries.now in
    let unknown = sym (c.names_unknown_model.ensures ∙ by_index c.args.places.now t c.index-entries-place.result c.requires) ∙ c.if-names_unknown_model.true in
    λ _. (c.loop-place.place, refl, first_one (names_unknown_model t) t c.loop-place.place _ c.loop-place-test.true c.index-entries-place.is unknown c.loop-place.invariant)

pub loop-place-preserved : goal.loop-place-preserved
loop-place-preserved c =
    let t = c.args.entries.now in
    let known = sym (c.names_unknown_model.ensures ∙ by_index c.args.places.now t c.index-entries-place.result c.requires) ∙ c.if-names_unknown_model.false in
    none_more (names_unknown_model t) t c.loop-place.place _ c.loop-place-test.true c.index-entries-place.is known c.loop-place.invariant

pub returns : goal.returns
returns c = none_found (names_unknown_model c.args.entries.now) c.args.entries.now c.loop-place.place c.loop-place-test.false c.loop-place.invariant

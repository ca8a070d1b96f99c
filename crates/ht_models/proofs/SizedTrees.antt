-- The trees of models that were read, as their texts say them.
use Rattle.std.proofs.Common.{◌≡◌, ◌∙◌, ◌+◌, ◌<◌, ◌≤◌, ℕ, List, [], ◌∷◌, length, Option, Some, None, ap, arith, inl, inr, option_map, refl}
use Rattle.std.specs.Prelude.{◌||◌, IsSome, filter_map, is_some, nat_lt, slice_get}
use Rattle.std.specs.List.{cons_option, sum_by}
use Rattle.std.specs.Option.{option_map_or}
use Rattle.std.proofs.lemmas.Bool.{cases_lt, le-leb, lt-ltb, not_from_false, or_left, or_right, true_from_ne_false}
use Rattle.std.proofs.lemmas.List.Sums.{sum_by-cons}
use Rattle.std.proofs.lemmas.Map.Keys.{any_passes_from_place}
use Rattle.std.proofs.lemmas.Option.{get_or_from_slice_get, slice_get-map, slice_get_within}
use Rattle.ht_base.specs.Places.{place_in}
use Rattle.ht_base.specs.declared.limits.TheConstants.{LARGEST_TREE, MOST_LEVELS, MOST_PARTS, MOST_SUBS}
use Rattle.ht_models.specs.Limits.{has_more}
use Rattle.ht_models.specs.Model.{ModelOf, names}
use Rattle.ht_entries.specs.ModelEntries.{ModelEntry}
use Rattle.ht_models.specs.Reading.{AreModels, IsModel}
use Rattle.ht_models.specs.Refusals.{IsTooMuch, NamesUnknownModel}
use Rattle.ht_entries.specs.SubEntries.{SubEntry}
use Rattle.ht_models.specs.SubTrees.{below, chains, is_too_deep, is_unknown, names_of, size_of, sub_places, subs_at}
use Rattle.ht_models.specs.TreeSizes.{AreSized, IsSized, entries_size, size_at}
use Rattle.ht_models.proofs.ModelLists.{same_names}
use Rattle.ht_models.proofs.TreeLaws.{model_found}
use Rattle.ht_models.proofs.TreeLevels.{top_and_below}
use Rattle.ht_models.proofs.Zips.{zip_at}

-- ---- entries of the text

-- where its sub entries lead
leads_below : (t : List ModelEntry) (place : ℕ) (m : ModelEntry) → slice_get t place ≡ Some m → subs_at t place ≡ below (names_of t) m
leads_below t place m at = get_or_from_slice_get (sub_places t) place (below (names_of t) m) [] (slice_get-map (below (names_of t)) t place ∙ ap (λ (o : Option ModelEntry). option_map (below (names_of t)) o) at)

-- a sum over what some things lead to, one by one
sum_found : (f : ℕ → ℕ) (o : Option ℕ) (xs : List ℕ) → sum_by f (cons_option o xs) ≡ option_map_or f o 0 + sum_by f xs
sum_found f None xs = omega arith
sum_found f (Some x) xs = sum_by-cons f x xs

-- ---- what is refused

-- no chain of sub entries is as long as a tree may have levels
not_deep : (t : List ModelEntry) → ((place : ℕ) → IsTooMuch t place → ⊥) → (place : ℕ) → place < length t → chains (subs_at t) MOST_LEVELS place ≡ 0
not_deep t limit place low = elim (cases_lt 0 (chains (subs_at t) MOST_LEVELS place)) [
  | inl deep ↦ absurd (limit place (inr (inr (low, or_left (is_too_deep t place) (nat_lt LARGEST_TREE (size_of t place)) (le-leb 1 (chains (subs_at t) MOST_LEVELS place) (omega arith))))))
  | inr none ↦ omega arith
]

few_subs : (t : List ModelEntry) → ((place : ℕ) → IsTooMuch t place → ⊥) → (place : ℕ) (m : ModelEntry) → slice_get t place ≡ Some m → length m.subs ≤ MOST_SUBS
few_subs t limit place m at = elim (cases_lt MOST_SUBS (length m.subs)) [
  | inl many ↦ absurd (limit place (inr (inl (m, at, or_left _ _ (or_left _ _ (or_left _ _ (or_right (has_more MOST_PARTS m.input || has_more MOST_PARTS m.output) _ (lt-ltb MOST_SUBS (length m.subs) many))))))))
  | inr few ↦ few
]

known_subs : (t : List ModelEntry) → ((place : ℕ) → NamesUnknownModel t place → ⊥) → (place : ℕ) (m : ModelEntry) → slice_get t place ≡ Some m → (i : ℕ) (s : SubEntry) → slice_get m.subs i ≡ Some s → IsSome (place_in s.model (names_of t))
known_subs t unknown place m at i s there = true_from_ne_false (is_some (place_in s.model (names_of t))) (λ none. unknown place (m, at, any_passes_from_place (is_unknown (names_of t)) m.subs i s there (not_from_false (is_some (place_in s.model (names_of t))) none)))

-- ---- their sizes

module _ (t : List ModelEntry) (models : List ModelOf) (are : AreModels t models) where
  -- the models of sub entries are as large as their texts say
  sized_at : (name : List ℕ) (o : Option ℕ) → place_in name (names models) ≡ o → option_map_or (size_at models) o 0 ≡ option_map_or (size_of t) o 0
  sized_at name None is = refl
  sized_at name (Some place) is =
      let found = model_found models name place is in
      rw found.1 (are.sizes place found.0 found.1)

  entries_below : (subs : List SubEntry) → entries_size models subs ≡ sum_by (size_of t) (filter_map (λ s. place_in s.model (names models)) subs)
  entries_below [] = refl
  entries_below (s ∷ subs) =
      let found = sum_found (size_of t) (place_in s.model (names models)) (filter_map (λ s. place_in s.model (names models)) subs) in
      let first = sized_at s.model (place_in s.model (names models)) refl in
      omega (arith, found, first, entries_below subs)

  module _ (unknown : (place : ℕ) → NamesUnknownModel t place → ⊥) (limit : (place : ℕ) → IsTooMuch t place → ⊥) where
    is_sized : (place : ℕ) (m : ModelEntry) (x : ModelOf) → slice_get t place ≡ Some m → IsModel m x → x.size ≡ size_of t place → IsSized models x
    is_sized place m x at read size =
        let names_are = same_names t models are.each in
        let low : place < length t = slice_get_within t place m at in
        let none = not_deep t limit place low in
        let all = top_and_below (subs_at t) MOST_LEVELS place in
        let leads : subs_at t place ≡ filter_map (λ s. place_in s.model (names models)) x.subs = leads_below t place m at ∙ rw (names_are, read.subs) refl in
        let below : entries_size models x.subs ≡ sum_by (size_of t) (subs_at t place) = rw leads (entries_below x.subs) in
        record {
          counted = omega arith;
          known = λ i s there. rw (← names_are) (known_subs t unknown place m at i s (rw (← read.subs) there));
          few = rw read.subs (few_subs t limit place m at);
        }

    pub are_sized : AreSized models
    are_sized place x at =
        let from = zip_at IsModel t models are.each place x at in
        is_sized place from.0 x from.1 from.2 (are.sizes place x at)

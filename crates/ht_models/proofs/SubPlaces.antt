-- The graph of sub entries, and the trees that are counted of it.
use Rattle.std.proofs.Common.{◌≡◌, ◌∙◌, ℕ, ◌+◌, ◌<◌, ◌≤◌, suc, zero, Bool, ◌||◌, nat_lt, List, [], ◌∷◌, ◌++◌, length, map, Option, Some, None, ap, ap₂, arith, inl, inr, refl, sym, take}
use Rattle.std.specs.Prelude.{filter_map, slice_get, slice_index_or}
use Rattle.std.specs.List.{cons_option, range_with_len}
use Rattle.std.proofs.lemmas.Bool.{cases_lt, le-ltb, lt-ltb}
use Rattle.std.proofs.lemmas.List.{length-map, take_more}
use Rattle.std.proofs.lemmas.List.Elements.{filter_map-append}
use Rattle.std.proofs.lemmas.List.Sums.{sum_by-cons}
use Rattle.ht_base.proofs.PublicLaws.{found_within}
use Rattle.ht_base.specs.Places.{place_in}
use Rattle.ht_base.specs.declared.limits.TheConstants.{LARGEST_TREE, MOST_LEVELS}
use Rattle.ht_graph.specs.Graphs.{IsClosed}
use Rattle.ht_models.specs.Limits.{has_too_large_tree}
use Rattle.ht_entries.specs.ModelEntries.{ModelEntry}
use Rattle.ht_entries.specs.SubEntries.{SubEntry}
use Rattle.ht_models.specs.SubTrees.{AreCounted, TreeCounts, below, chains, is_counted_too_large, names_of, places_at, size_of, sub_places, subs_at, up_to_enough}

pub length_sub_places : (t : List ModelEntry) → length (sub_places t) ≡ length t
length_sub_places t = length-map t (below (names_of t))

-- one more sub entry
pub found_more : (names : List (List ℕ)) (subs : List SubEntry) (i : ℕ) (s : SubEntry) (found more : List ℕ) → i < length subs → s ≡ slice_index_or subs i s → found ≡ filter_map (λ s. place_in s.model names) (take i subs) → (o : Option ℕ) → o ≡ place_in s.model names → more ≡ found ++ cons_option o [] → more ≡ filter_map (λ s. place_in s.model names) (take (i + 1) subs)
found_more names subs i s found more low at is o here put =
    let places : List SubEntry → List ℕ = filter_map (λ s. place_in s.model names) in
    put ∙ rw (is, here) (sym (filter_map-append (λ s. place_in s.model names) (take i subs) (s ∷ []))) ∙ ap places (sym (take_more subs i s low ∙ ap (λ x. take i subs ++ x ∷ []) (sym at)))

below_within : (names : List (List ℕ)) (subs : List SubEntry) (i to : ℕ) → slice_get (filter_map (λ s. place_in s.model names) subs) i ≡ Some to → to < length names
below_within names [] i to at = cc
below_within names (s ∷ subs) i to at = here (place_in s.model names) refl i at (λ k e. below_within names subs k to e)
  where
    here : (o : Option ℕ) → place_in s.model names ≡ o → (j : ℕ) → slice_get (cons_option o (filter_map (λ s. place_in s.model names) subs)) j ≡ Some to → ((k : ℕ) → slice_get (filter_map (λ s. place_in s.model names) subs) k ≡ Some to → to < length names) → to < length names
    here None is j e rest = rest j e
    here (Some p) is zero e rest = let same : p ≡ to = cc in rw (← same) (found_within s.model names p is)
    here (Some p) is (suc j) e rest = rest j e

places_within : (names : List (List ℕ)) (ms : List ModelEntry) (place i to : ℕ) → slice_get (places_at (map (below names) ms) place) i ≡ Some to → (place < length ms) × (to < length names)
places_within names [] place i to at = absurd (cc)
places_within names (m ∷ ms) zero i to at = (omega arith, below_within names m.subs i to at)
places_within names (m ∷ ms) (suc place) i to at = let rest = places_within names ms place i to at in (let low = rest.0 in omega arith, rest.1)

pub closed : (t : List ModelEntry) → IsClosed (length (sub_places t)) (places_at (sub_places t))
closed t place i to at =
    let within = places_within (names_of t) t place i to at in
    rw (length_sub_places t) (within.0, rw (← length-map t (λ m. m.name)) within.1)

-- ---- trees

pub some_size : (t : List ModelEntry) (place : ℕ) → 1 ≤ size_of t place
some_size t place = omega (arith, sum_by-cons (λ n. chains (subs_at t) n place) 0 (range_with_len 1 4))

same_test : (a b c d : ℕ) → (a < b → c < d) → (c < d → a < b) → nat_lt a b ≡ nat_lt c d
same_test a b c d on back = elim (cases_lt a b) [
  | inl low ↦ rw (lt-ltb a b low, lt-ltb c d (on low)) refl
  | inr past ↦ rw (le-ltb a b past, le-ltb c d (elim (cases_lt c d) [ inl low ↦ let no = back low in omega arith | inr high ↦ high ])) refl
]

module _ (t : List ModelEntry) (counts : TreeCounts) (counted : AreCounted (sub_places t) counts) (place : ℕ) (low : place < length t) where
  within : place < length (sub_places t)
  within = rw (length_sub_places t) low

  pub counted_size : size_of t place ≤ LARGEST_TREE → slice_index_or counts.sizes place 0 ≡ size_of t place
  counted_size few = omega (arith, counted.sizes place within)

  pub counted_too_large : is_counted_too_large counts place ≡ has_too_large_tree t place
  counted_too_large = rw (counted.deep place within, counted.sizes place within) (ap₂ (λ (a b : Bool). a || b)
      (same_test 0 (up_to_enough (chains (subs_at t) MOST_LEVELS place)) 0 (chains (subs_at t) MOST_LEVELS place) (λ h. omega arith) (λ h. omega arith))
      (same_test LARGEST_TREE (up_to_enough (size_of t place)) LARGEST_TREE (size_of t place) (λ h. omega arith) (λ h. omega arith)))

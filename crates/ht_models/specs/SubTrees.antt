-- The trees of tasks that models make of one another by their sub entries (WS-HumanTask 1.1, 3.2).
-- A model is told by its place in the text.
use Rattle.std.specs.Prelude.{◌≡◌, ℕ, ◌+◌, ◌<◌, zero, suc, min, Bool, ◌||◌, nat_le, nat_lt, is_none, List, [], length, map, Option, slice_get, slice_index_or}
use Rattle.std.specs.List.{filter_map, list_any, range_with_len, sum_by}
use Rattle.std.specs.Option.{option_and_then}
use Rattle.ht_base.specs.Places.{place_in}
use Rattle.ht_base.specs.declared.limits.TheConstants.{LARGEST_TREE, MOST_LEVELS}
use Rattle.ht_entries.specs.ModelEntries.{ModelEntry}
use Rattle.ht_entries.specs.SubEntries.{SubEntry}

abbrev pub names_of : List ModelEntry → List (List ℕ)
names_of t = map (λ m. m.name) t

abbrev pub model_named : List ModelEntry → List ℕ → Option ModelEntry
model_named t name = option_and_then (λ place. slice_get t place) (place_in name (names_of t))

-- the model of a sub entry isn't in the text
abbrev pub is_unknown : List (List ℕ) → SubEntry → Bool
is_unknown names s = is_none (place_in s.model names)

abbrev pub names_unknown_model : List ModelEntry → ModelEntry → Bool
names_unknown_model t m = list_any (is_unknown (names_of t)) m.subs

-- ---- a graph of places

-- the places of the models of a model's sub entries, one for each that is in the text
abbrev pub below : List (List ℕ) → ModelEntry → List ℕ
below names m = filter_map (λ s. place_in s.model names) m.subs

abbrev pub sub_places : List ModelEntry → List (List ℕ)
sub_places t = map (below (names_of t)) t

abbrev pub places_at : List (List ℕ) → ℕ → List ℕ
places_at graph place = slice_index_or graph place []

abbrev pub subs_at : List ModelEntry → ℕ → List ℕ
subs_at t place = places_at (sub_places t) place

-- ---- depth and size

-- how many chains of n sub entries begin at a model
abbrev pub chains : (ℕ → List ℕ) → ℕ → ℕ → ℕ
chains next zero place = 1
chains next (suc n) place = sum_by (chains next n) (next place)

-- there are as many sub entries one below another as a tree has levels at most, of which the task at its
-- top is one
abbrev pub is_too_deep : List ModelEntry → ℕ → Bool
is_too_deep t place = nat_le 1 (chains (subs_at t) MOST_LEVELS place)

-- the tasks of the model's tree, level by level
abbrev pub size_of : List ModelEntry → ℕ → ℕ
size_of t place = sum_by (λ n. chains (subs_at t) n place) (range_with_len 0 MOST_LEVELS)

-- ---- the same, counted no further than is asked

-- one more than the most tasks of a tree
abbrev pub enough : ℕ
enough = LARGEST_TREE + 1

abbrev pub up_to_enough : ℕ → ℕ
up_to_enough n = min n enough

-- of each place in a graph: the chains of more levels than there may be, and the tasks
pub record TreeCounts : Type 0 where
  pub deep : List ℕ
  pub sizes : List ℕ

pub record AreCounted (graph : List (List ℕ)) (counts : TreeCounts) : Type 0 where
  pub deep : (place : ℕ) → place < length graph → slice_index_or counts.deep place 0 ≡ up_to_enough (chains (places_at graph) MOST_LEVELS place)
  pub sizes : (place : ℕ) → place < length graph → slice_index_or counts.sizes place 0 ≡ up_to_enough (sum_by (λ n. chains (places_at graph) n place) (range_with_len 0 MOST_LEVELS))

abbrev pub is_counted_too_large : TreeCounts → ℕ → Bool
is_counted_too_large counts place = nat_lt 0 (slice_index_or counts.deep place 0) || nat_lt LARGEST_TREE (slice_index_or counts.sizes place 0)

-- The sizes of the trees that models make of one another by their sub entries (WS-HumanTask 1.1, 3.2),
-- told of the models that were read.
use Rattle.std.specs.Prelude.{◌≡◌, ◌≤◌, ℕ, ◌+◌, List, [], ◌∷◌, length, Some, IsSome, slice_get}
use Rattle.std.specs.Option.{option_map_or}
use Rattle.ht_base.specs.Places.{place_in}
use Rattle.ht_base.specs.declared.limits.TheConstants.{MOST_SUBS}
use Rattle.ht_models.specs.Model.{ModelOf, names}
use Rattle.ht_entries.specs.SubEntries.{SubEntry}

-- the tasks of the tree of the model at a place, 0 where there is none
abbrev pub size_at : List ModelOf → ℕ → ℕ
size_at models place = option_map_or (λ m. m.size) (slice_get models place) 0

-- the tasks of the tree of an entry, 0 where its model isn't there
abbrev pub entry_size : List ModelOf → SubEntry → ℕ
entry_size models entry = option_map_or (size_at models) (place_in entry.model (names models)) 0

-- of the trees of all these entries
abbrev pub entries_size : List ModelOf → List SubEntry → ℕ
entries_size models [] = 0
entries_size models (entry ∷ entries) = entry_size models entry + entries_size models entries

-- A model's tree is its own task and the trees of its entries. Their models are there, and there are no
-- more of them than there may be.
pub record IsSized (models : List ModelOf) (m : ModelOf) : Type 0 where
  pub counted : m.size ≡ 1 + entries_size models m.subs
  pub known : (place : ℕ) (entry : SubEntry) → slice_get m.subs place ≡ Some entry → IsSome (place_in entry.model (names models))
  pub few : length m.subs ≤ MOST_SUBS

abbrev pub AreSized : List ModelOf → Type 0
AreSized models = (place : ℕ) (m : ModelOf) → slice_get models place ≡ Some m → IsSized models m

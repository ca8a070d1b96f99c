-- What a table has: its keys; and what an array has: its entries.
use Rattle.std.specs.Prelude.{ℕ, Bool, List, [], ◌∷◌, Option, option_map, bytes_eq}
use Rattle.std.specs.List.{list_all, list_any}
use Rattle.toml.specs.Data.{Data, Items, no_items, item, Members, no_members, member, as_array}

-- a list, whose entries the library's data has one behind another
abbrev pub list_of : Items → List Data
list_of no_items = []
list_of (item d ds) = d ∷ list_of ds

abbrev pub keys : Members → List (List ℕ)
keys no_members = []
keys (member k d ms) = k ∷ keys ms

abbrev pub is_among : List (List ℕ) → List ℕ → Bool
is_among known k = list_any (λ n. bytes_eq n k) known

-- each key is one of these
abbrev pub has_only : List (List ℕ) → Members → Bool
has_only known ms = list_all (is_among known) (keys ms)

-- the entries of an array
abbrev pub entries_of : Data → Option (List Data)
entries_of d = option_map list_of (as_array d)

-- What a value says, by its kind.
use Rattle.std.specs.Prelude.{ℕ, ◌&&◌, ℤ, pos, negsuc, nat_le, List, [], ◌∷◌, Option, Some, None, map, option_map, bytes_eq, if◌then◌else◌}
use Rattle.std.specs.Option.{option_and_then}
use Rattle.ht_base.specs.Name.{name_of}
use Rattle.ht_base.specs.Values.{Ascend}
use Rattle.toml.specs.Data.{Data, Members, no_members, member, as_integer, as_str, as_table}
use Rattle.ht_toml.specs.Entries.{each}
use Rattle.ht_toml.specs.Tables.{entries_of}

-- a name
abbrev pub named : Data → Option (List ℕ)
named d = option_and_then name_of (as_str d)

-- one word of a list, of which each stands beside its meaning
abbrev pub meaning : {A : Type 0} → List (List ℕ × A) → List ℕ → Option A
meaning [] word = None
meaning (w ∷ ws) word = if bytes_eq w.0 word then Some w.1 else meaning ws word

abbrev pub word_of : {A : Type 0} → List (List ℕ × A) → Data → Option A
word_of words d = option_and_then (meaning words) (as_str d)

-- a whole number of a range
abbrev pub within : ℕ → ℕ → ℤ → Option ℕ
within least most (pos n) = if nat_le least n && nat_le n most then Some n else None
within least most (negsuc n) = None

abbrev pub whole_of : ℕ → ℕ → Data → Option ℕ
whole_of least most d = option_and_then (within least most) (as_integer d)

-- a list, each of whose entries has its shape
abbrev pub list_of : {A : Type 0} → (Data → Option A) → Data → Option (List A)
list_of of d = option_and_then (each of) (entries_of d)

-- a table whose keys and values have each their shape, in the order of the keys
abbrev pub rows : Members → List (List ℕ × Data)
rows no_members = []
rows (member k d ms) = (k, d) ∷ rows ms

abbrev pub pair : {A B : Type 0} → A → B → A × B
pair a b = (a, b)

abbrev pub row_of : {A B : Type 0} → (List ℕ → Option A) → (Data → Option B) → List ℕ × Data → Option (A × B)
row_of key of row = option_and_then (λ k. option_map (pair k) (of row.1)) (key row.0)

abbrev pub table_of : {A B : Type 0} → (List ℕ → Option A) → (Data → Option B) → Data → Option (List (A × B))
table_of key of d = option_and_then (λ ms. each (row_of key of) (rows ms)) (as_table d)

-- the keys, as they are spelled, ascend
abbrev pub KeysAscend : {A B : Type 0} → (A → List ℕ) → List (A × B) → Type 0
KeysAscend spelling ps = Ascend (map (λ p. pair (spelling p.0) p.1) ps)

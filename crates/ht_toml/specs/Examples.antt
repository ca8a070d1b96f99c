-- Worked examples of the definitions. A wrong reading of one fails the check.
use Rattle.std.specs.Prelude.{◌≡◌, refl, [], ◌∷◌, Some, None, codes, true, false}
use Rattle.toml.specs.Data.{Members, no_members, member, no_items, item, string, boolean, array, as_str}
use Rattle.ht_toml.specs.Entries.{each}
use Rattle.ht_toml.specs.Keys.{otherwise, required}
use Rattle.ht_toml.specs.Tables.{entries_of, has_only}

-- list = ["a", "b"], name = "anna", operator = true
abbrev sample : Members
sample =
    member (codes "list") (array (item (string (codes "a")) (item (string (codes "b")) no_items)))
    (member (codes "name") (string (codes "anna")) (member (codes "operator") (boolean true) no_members))

all_known : has_only (codes "name" ∷ codes "operator" ∷ codes "list" ∷ []) sample ≡ true
all_known = refl

one_unknown : has_only (codes "name" ∷ codes "list" ∷ []) sample ≡ false
one_unknown = refl

nothing_to_know : has_only [] no_members ≡ true
nothing_to_know = refl

an_array : required entries_of (codes "list") sample ≡ Some (string (codes "a") ∷ string (codes "b") ∷ [])
an_array = refl

no_array : required entries_of (codes "person") sample ≡ None
no_array = refl

missing_entries : otherwise [] entries_of (codes "person") sample ≡ Some []
missing_entries = refl

no_entries : otherwise [] entries_of (codes "name") sample ≡ None
no_entries = refl

all_read : each as_str (string (codes "a") ∷ string (codes "b") ∷ []) ≡ Some (codes "a" ∷ codes "b" ∷ [])
all_read = refl

one_misshapen : each as_str (string (codes "a") ∷ boolean true ∷ []) ≡ None
one_misshapen = refl

-- Lists and keys of the library's values, beside those of its data.
use Rattle.std.proofs.Common.{◌≡◌, ℕ, Bool, ◌&&◌, List, [], ◌∷◌, string_bytes, String, Global, ap, refl}
use Rattle.std.specs.List.{list_all}
use Rattle.toml.specs.Data.{Data}
use Rattle.toml.specs.View.{items_of, members_view}
use Rattle.toml.specs.declared.value.Value.{Value}
use Rattle.ht_toml.specs.Tables.{list_of, keys}

pub list_of-items_of : (ds : List Data) → list_of (items_of ds) ≡ ds
list_of-items_of [] = refl
list_of-items_of (d ∷ ds) = ap (λ es. d ∷ es) (list_of-items_of ds)

-- a test of each key
pub list_all-keys : (test : List ℕ → Bool) (es : List (String Global × Value)) → list_all (λ e. test (string_bytes e.0)) es ≡ list_all test (keys (members_view es))
list_all-keys test [] = refl
list_all-keys test (e ∷ es) = ap (λ b. test (string_bytes e.0) && b) (list_all-keys test es)

-- Rows of a table that are read one after another.
use Rattle.std.proofs.Common.{◌≡◌, ℕ, List, [], ◌∷◌, ◌++◌, map, Option, Some, None, option_map, string_bytes, String, Global, refl, ap, ◌∙◌, sym}
use Rattle.std.proofs.lemmas.List.{append_assoc}
use Rattle.toml.specs.Data.{Data}
use Rattle.toml.specs.View.{members_view, view}
use Rattle.toml.specs.declared.value.Value.{Value}
use Rattle.ht_toml.specs.Entries.{each}
use Rattle.ht_toml.specs.Values.{rows}

-- those that were read, before the others
abbrev pub before : {B : Type 0} → List B → Option (List B) → Option (List B)
before done rest = option_map (λ es. done ++ es) rest

before_none : {B : Type 0} (rest : Option (List B)) → before [] rest ≡ rest
before_none None = refl
before_none (Some es) = refl

-- one more was read
pub before_more : {A B : Type 0} (of : A → Option B) (a : A) (ds : List A) (b : B) (done : List B) → of a ≡ Some b → before done (each of (a ∷ ds)) ≡ before (done ++ b ∷ []) (each of ds)
before_more {A} {B} of a ds b done is = rw is (here (each of ds))
  where
    here : (rest : Option (List B)) → before done (option_map (λ es. b ∷ es) rest) ≡ before (done ++ b ∷ []) rest
    here None = refl
    here (Some es) = ap (λ (l : List B). Some l) (sym (append_assoc done (b ∷ []) es))

rows_of_entries : (es : List (String Global × Value)) → rows (members_view es) ≡ map (λ e. (string_bytes e.0, view e.1)) es
rows_of_entries [] = refl
rows_of_entries (e ∷ es) = ap (λ rs. (string_bytes e.0, view e.1) ∷ rs) (rows_of_entries es)

-- nothing was read
pub before_all : {B : Type 0} (of : List ℕ × Data → Option B) (es : List (String Global × Value))
    → each of (rows (members_view es)) ≡ before [] (each of (map (λ e. (string_bytes e.0, view e.1)) es))
before_all of es = ap (each of) (rows_of_entries es) ∙ sym (before_none (each of (map (λ e. (string_bytes e.0, view e.1)) es)))

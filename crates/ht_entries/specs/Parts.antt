-- The parts that a model declares of its tasks' input or output.
use Rattle.std.specs.Prelude.{ℕ, Bool, false, List, [], ◌∷◌, Option, codes, option_map}
use Rattle.std.specs.Option.{option_and_then}
use Rattle.toml.specs.Data.{Data, Members, as_bool, as_table}
use Rattle.ht_base.specs.declared.kind.Kind.{Kind}
use Rattle.ht_base.specs.declared.kind.Kind.TheVariants.{Text, Int, Truth, Person, Instant}
use Rattle.ht_toml.specs.Keys.{◌also◌, keyed, otherwise, required}
use Rattle.ht_toml.specs.Values.{word_of}
use Rattle.ht_entries.specs.Labels.{label_of}

-- a part, the kind of its values, and whether it may stay without one
pub record Part : Type 0 where
  pub name : List ℕ
  pub kind : Kind
  pub optional : Bool

abbrev pub part : List ℕ → Kind → Bool → Part
part name kind optional = record { name = name; kind = kind; optional = optional }

abbrev pub kinds : List (List ℕ × Kind)
kinds =
    (codes "text", Text) ∷ (codes "int", Int) ∷ (codes "bool", Truth)
    ∷ (codes "person", Person) ∷ (codes "instant", Instant) ∷ []

abbrev pub part_keys : List (List ℕ)
part_keys = codes "name" ∷ codes "kind" ∷ codes "optional" ∷ []

abbrev pub part_values : Members → Option Part
part_values ms =
    option_map part (required label_of (codes "name") ms)
    also required (word_of kinds) (codes "kind") ms
    also otherwise false as_bool (codes "optional") ms

abbrev pub part_in : Members → Option Part
part_in ms = keyed part_keys part_values ms

abbrev pub part_of : Data → Option Part
part_of d = option_and_then part_in (as_table d)

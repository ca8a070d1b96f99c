-- The sub tasks that a composite task may have (WS-HumanTask 1.1, 3.2).
use Rattle.std.specs.Prelude.{ℕ, All, List, [], ◌∷◌, Option, codes, option_map}
use Rattle.std.specs.Option.{option_and_then}
use Rattle.toml.specs.Data.{Data, Members, as_table}
use Rattle.ht_base.specs.Values.{Ascend}
use Rattle.ht_toml.specs.Keys.{◌also◌, keyed, otherwise, required}
use Rattle.ht_toml.specs.Values.{named, table_of}
use Rattle.ht_entries.specs.Labels.{label, label_of}

-- a sub entry: the model of its task, and from which input part of the composite task an input part
-- of the sub task takes its value, each beside the other
pub record SubEntry : Type 0 where
  pub name : List ℕ
  pub model : List ℕ
  pub input : List (List ℕ × List ℕ)

abbrev pub sub_entry : List ℕ → List ℕ → List (List ℕ × List ℕ) → SubEntry
sub_entry name model input = record { name = name; model = model; input = input }

-- each has its pairs in the order of the names of the sub task's parts, of which none stands twice
abbrev pub AreInOrder : List SubEntry → Type 0
AreInOrder subs = All (λ s. Ascend s.input) subs

abbrev pub sub_keys : List (List ℕ)
sub_keys = codes "name" ∷ codes "model" ∷ codes "input" ∷ []

abbrev pub sub_values : Members → Option SubEntry
sub_values ms =
    option_map sub_entry (required label_of (codes "name") ms)
    also required named (codes "model") ms
    also otherwise [] (table_of label label_of) (codes "input") ms

abbrev pub sub_in : Members → Option SubEntry
sub_in ms = keyed sub_keys sub_values ms

abbrev pub sub_of : Data → Option SubEntry
sub_of d = option_and_then sub_in (as_table d)

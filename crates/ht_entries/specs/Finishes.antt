-- How a composite task finishes (WS-HumanTask 1.1, 4.8): under which condition, and which of its
-- output parts are then set from those of its sub tasks.
use Rattle.std.specs.Prelude.{ℕ, List, [], ◌∷◌, Option, codes, option_map}
use Rattle.std.specs.Option.{option_and_then}
use Rattle.toml.specs.Data.{Data, Members, as_str, as_table}
use Rattle.ht_toml.specs.Keys.{◌also◌, joined, keyed, optional, otherwise, required}
use Rattle.ht_toml.specs.Values.{list_of}
use Rattle.ht_base.specs.declared.how.How.{How}
use Rattle.ht_entries.specs.Aggregates.{delimiter_of, how_of, percent_of}
use Rattle.ht_entries.specs.Labels.{label_of}

-- ---- a part that is set

-- an output part of the task, and how its value comes of this output part of the sub tasks
pub record Setting : Type 0 where
  pub part : List ℕ
  pub from : List ℕ
  pub how : How

abbrev pub setting : List ℕ → List ℕ → How → Setting
setting part from how = record { part = part; from = from; how = how }

abbrev pub setting_keys : List (List ℕ)
setting_keys = codes "part" ∷ codes "from" ∷ codes "with" ∷ codes "percent" ∷ codes "delimiter" ∷ []

-- the word of the aggregate, with the percent and the delimiter that are given
abbrev pub setting_with : List ℕ → List ℕ → List ℕ → Option ℕ → Option (List ℕ) → Option Setting
setting_with part from word percent delimiter = option_map (setting part from) (how_of word percent delimiter)

abbrev pub setting_values : Members → Option (Option Setting)
setting_values ms =
    option_map setting_with (required label_of (codes "part") ms)
    also required label_of (codes "from") ms
    also required as_str (codes "with") ms
    also optional percent_of (codes "percent") ms
    also optional delimiter_of (codes "delimiter") ms

abbrev pub setting_in : Members → Option Setting
setting_in ms = joined (keyed setting_keys setting_values ms)

abbrev pub setting_of : Data → Option Setting
setting_of d = option_and_then setting_in (as_table d)

-- ---- a finish

-- a finish without a condition is the default
pub record FinishText : Type 0 where
  pub when : Option (List ℕ)
  pub settings : List Setting

abbrev pub finish_text : Option (List ℕ) → List Setting → FinishText
finish_text when settings = record { when = when; settings = settings }

abbrev pub finish_keys : List (List ℕ)
finish_keys = codes "when" ∷ codes "set" ∷ []

abbrev pub finish_values : Members → Option FinishText
finish_values ms =
    option_map finish_text (optional as_str (codes "when") ms)
    also otherwise [] (list_of setting_of) (codes "set") ms

abbrev pub finish_in : Members → Option FinishText
finish_in ms = keyed finish_keys finish_values ms

abbrev pub finish_of : Data → Option FinishText
finish_of d = option_and_then finish_in (as_table d)

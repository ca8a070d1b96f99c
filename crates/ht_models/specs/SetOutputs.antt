-- Which output parts of a composite task its finishes set (WS-HumanTask 1.1, 4.8), told of the models
-- that were read.
use Rattle.std.specs.Prelude.{◌≡◌, ℕ, All, List, Some, slice_get}
use Rattle.ht_models.specs.Kinded.{IsSettable, parts_of}
use Rattle.ht_models.specs.Model.{ModelOf}

-- each that is set is declared, and of the aggregate's kind
abbrev pub SetsOutputs : ModelOf → Type 0
SetsOutputs m = All (λ f. All (IsSettable (parts_of m.input m.output)) f.settings) m.finishes

abbrev pub SetOutputs : List ModelOf → Type 0
SetOutputs models = (place : ℕ) (m : ModelOf) → slice_get models place ≡ Some m → SetsOutputs m

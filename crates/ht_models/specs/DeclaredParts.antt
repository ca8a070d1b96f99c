-- Which parts the models that were read declare.
use Rattle.std.specs.Prelude.{◌≡◌, ℕ, List, Some, map, slice_get}
use Rattle.ht_base.specs.Places.{IsRepeated}
use Rattle.ht_models.specs.Model.{ModelOf}
use Rattle.ht_entries.specs.Parts.{Part}

-- no two have one name
abbrev pub HaveOwnNames : List Part → Type 0
HaveOwnNames parts = (place : ℕ) → IsRepeated (map (λ p. p.name) parts) place → ⊥

pub record DeclaresOnce (m : ModelOf) : Type 0 where
  pub input : HaveOwnNames m.input
  pub output : HaveOwnNames m.output

abbrev pub DeclareOnce : List ModelOf → Type 0
DeclareOnce models = (place : ℕ) (m : ModelOf) → slice_get models place ≡ Some m → DeclaresOnce m

-- How models lie in memory: in the order of the text, beside an index of their names.
use Rattle.std.specs.Prelude.{ℕ, ◌*◌, ◌≤◌, List, All, length, map}
use Rattle.ht_base.specs.Indexes.{IsIndex}
use Rattle.ht_base.specs.Places.{IsRepeated}
use Rattle.ht_base.specs.declared.limits.TheConstants.{LARGEST_TREE, MOST_DEADLINES, MOST_MODELS}
use Rattle.ht_models.specs.declared.models.Models.TheInside.{Inside}
use Rattle.ht_models.specs.DeclaredParts.{DeclareOnce}
use Rattle.ht_models.specs.Kinded.{IsKinded}
use Rattle.ht_models.specs.MappedInputs.{AreMapped}
use Rattle.ht_models.specs.Reassigning.{ReassignOwned}
use Rattle.ht_models.specs.Shown.{model_of}
use Rattle.ht_models.specs.TreeSizes.{AreSized}

abbrev pub kept_names : Inside → List (List ℕ)
kept_names m = map (λ m. m.name) m.models.items

pub record IsKept (m : Inside) : Type 0 where
  pub index : IsIndex m.places (kept_names m)
  pub distinct : (place : ℕ) → IsRepeated (kept_names m) place → ⊥
  pub sizes : All (λ m. (1 ≤ m.size) × (m.size ≤ LARGEST_TREE)) m.models.items
  pub trees : AreSized (map model_of m.models.items)
  pub parts : DeclareOnce (map model_of m.models.items)
  pub kinds : All IsKinded m.models.items
  pub inputs : AreMapped (map model_of m.models.items)
  pub owned : ReassignOwned (map model_of m.models.items)
  pub deadlines : All (λ m. length m.deadlines.items ≤ 2 * MOST_DEADLINES) m.models.items
  pub some : 1 ≤ length m.models.items
  pub few : length m.models.items ≤ MOST_MODELS

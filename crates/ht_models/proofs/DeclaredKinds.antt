-- The kind of a part among those that a model declares.
use Rattle.std.proofs.Common.{◌≡◌, ◌++◌, ℕ, List, [], ◌∷◌, None, map, refl}
use Rattle.ht_expr.specs.Kinds.{declared_kind}
use Rattle.ht_expr.specs.declared.kinds.Side.TheVariants.{Input, Output}
use Rattle.ht_models.specs.Expressions.{declared, kind_among}
use Rattle.ht_entries.specs.ModelEntries.{ModelEntry}
use Rattle.ht_entries.specs.Parts.{Part}

module _ (name : List ℕ) where
  -- of outputs alone no input is found
  no_input : (out : List Part) → declared_kind (map (λ p. (Output, p.name, p.kind)) out) Input name ≡ None
  no_input [] = refl
  no_input (p ∷ ps) = no_input ps

  pub among_inputs : (input out : List Part) → declared_kind (map (λ p. (Input, p.name, p.kind)) input ++ map (λ p. (Output, p.name, p.kind)) out) Input name ≡ kind_among name input
  among_inputs [] out = no_input out
  among_inputs (p ∷ ps) out = rw (among_inputs ps out) refl

  among_outputs : (out : List Part) → declared_kind (map (λ p. (Output, p.name, p.kind)) out) Output name ≡ kind_among name out
  among_outputs [] = refl
  among_outputs (p ∷ ps) = rw (among_outputs ps) refl

  pub behind_inputs : (input out : List Part) → declared_kind (map (λ p. (Input, p.name, p.kind)) input ++ map (λ p. (Output, p.name, p.kind)) out) Output name ≡ kind_among name out
  behind_inputs [] out = among_outputs out
  behind_inputs (p ∷ ps) out = behind_inputs ps out

  pub declared_input : (m : ModelEntry) → declared_kind (declared m) Input name ≡ kind_among name m.input
  declared_input m = among_inputs m.input m.output

  pub declared_output : (m : ModelEntry) → declared_kind (declared m) Output name ≡ kind_among name m.output
  declared_output m = behind_inputs m.input m.output

-- What is known of the parts that a text may speak of.
use Rattle.std.specs.Prelude.{ℕ, Bool, true, false, ◌&&◌, List, [], ◌∷◌, bytes_eq, if◌then◌else◌, Option, Some, None}
use Rattle.ht_base.specs.declared.kind.Kind.{Kind}
use Rattle.ht_expr.specs.declared.kinds.Side.{Side}
use Rattle.ht_expr.specs.declared.kinds.Side.TheVariants.{Input, Output}

-- the parts by side, name and kind
abbrev pub Declared : Type 0
Declared = List (Side × List ℕ × Kind)

abbrev pub same_side : Side → Side → Bool
same_side Input Input = true
same_side Input Output = false
same_side Output Input = false
same_side Output Output = true

-- the kind that is declared for a part. Of several declarations of one part the first counts
abbrev pub declared_kind : Declared → Side → List ℕ → Option Kind
declared_kind [] side name = None
declared_kind (p ∷ ps) side name = if same_side p.0 side && bytes_eq p.1 name then Some p.2 else declared_kind ps side name

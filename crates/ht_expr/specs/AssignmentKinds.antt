-- An assignment that was read speaks of the parts that are declared for it, each as its kind is.
use Rattle.std.specs.Prelude.{◌≡◌, true}
use Rattle.ht_expr.specs.declared.assignment.Assign.{Assign}
use Rattle.ht_expr.specs.Kinds.{Declared}
use Rattle.ht_expr.specs.KindTable.{assigns}
use Rattle.ht_expr.specs.Shown.{AreDeclared, shown}

-- an assignment whose parts are persons, and whose conditions are truths
pub record Assigns (kinds : Declared) (a : Assign) : Type 0 where
  pub declared : AreDeclared kinds a
  pub fits : assigns kinds (shown a) ≡ true

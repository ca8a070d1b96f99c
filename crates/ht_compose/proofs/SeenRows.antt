-- That what a row holds may stand in an environment.
use Rattle.std.proofs.Common.{◌≡◌, ℕ, true, List, [], ◌∷◌, is_some, IsTrue, refl}
use Rattle.std.proofs.lemmas.Bool.{and_parts}
use Rattle.std.specs.List.{list_all}
use Rattle.ht_base.specs.declared.value.Value.{Value}
use Rattle.ht_expr.specs.declared.kinds.Side.{Side}
use Rattle.ht_expr.specs.declared.kinds.Side.TheVariants.{Input, Output}
use Rattle.ht_value.specs.Environment.{has_parts, may_be, values_fit}
use Rattle.ht_expr.specs.Kinds.{Declared, declared_kind}
use Rattle.ht_models.specs.Kinded.{parts_of}
use Rattle.ht_models.specs.Model.{ModelOf}
use Rattle.ht_tree.specs.declared.row.Row.{Row}
use Rattle.ht_tree.specs.Creating.{sees}
use Rattle.ht_tree.specs.Soundness.{IsHeldBy, is_declared}

fit_parts : (kinds : Declared) (side : Side) (vs : List (List ℕ × Value)) → list_all (is_declared kinds side) vs ≡ true → values_fit kinds side vs ≡ true
fit_parts kinds side [] all = refl
fit_parts kinds side (v ∷ vs) all =
    let parts = and_parts (is_declared kinds side v) (list_all (is_declared kinds side) vs) all in
    let may = and_parts (is_some (declared_kind kinds side v.0)) (may_be (declared_kind kinds side v.0) v.1) parts.0 in
    rw (may.1) (fit_parts kinds side vs parts.1)

pub row_seen : (m : ModelOf) (persons : ℕ) (rows : List Row) (row : Row) → IsHeldBy persons m row.input row.output row.taken → IsTrue (has_parts (parts_of m.input m.output) (sees rows row))
row_seen m persons rows row held =
    let kinds = parts_of m.input m.output in
    rw (fit_parts kinds Input row.input held.input.declared, fit_parts kinds Output row.output held.output.declared) refl

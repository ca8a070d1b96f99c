-- That what a row holds may stand in an environment.
use Rattle.std.proofs.Common.{◌≡◌, ℕ, true, ◌&&◌, List, [], ◌∷◌, Option, Some, is_some, IsTrue, refl, sym, subst}
use Rattle.std.proofs.lemmas.Bool.{and_parts}
use Rattle.std.specs.List.{list_all}
use Rattle.ht_base.specs.declared.value.Value.{Value}
use Rattle.ht_base.specs.declared.values.Values.{Values}
use Rattle.ht_value.specs.declared.environment.Env.{Env}
use Rattle.ht_expr.specs.declared.kinds.Side.{Side}
use Rattle.ht_expr.specs.declared.kinds.Side.TheVariants.{Input, Output}
use Rattle.ht_value.specs.Environment.{has_parts, may_be, values_fit}
use Rattle.ht_expr.specs.Kinds.{Declared, declared_kind}
use Rattle.ht_models.specs.Kinded.{parts_of}
use Rattle.ht_models.specs.Model.{ModelOf}
use Rattle.ht_tree.specs.declared.row.Row.{Row}
use Rattle.ht_tree.specs.Creating.{IsInput, env_of}
use Rattle.ht_tree.specs.Soundness.{AreHeld, IsHeldBy, is_declared}

fit_parts : (kinds : Declared) (side : Side) (vs : List (List ℕ × Value)) → list_all (is_declared kinds side) vs ≡ true → values_fit kinds side vs ≡ true
fit_parts kinds side [] all = refl
fit_parts kinds side (v ∷ vs) all =
    let parts = and_parts (is_declared kinds side v) (list_all (is_declared kinds side) vs) all in
    let may = and_parts (is_some (declared_kind kinds side v.0)) (may_be (declared_kind kinds side v.0) v.1) parts.0 in
    rw (may.1) (fit_parts kinds side vs parts.1)

pub may_see : (kinds : Declared) (persons : ℕ) (input output : Values) → AreHeld kinds persons Input input → AreHeld kinds persons Output output → IsTrue (values_fit kinds Input input && values_fit kinds Output output)
may_see kinds persons input output given set = rw (fit_parts kinds Input input given.declared, fit_parts kinds Output output set.declared) refl

-- what is given to a new task, and nothing set
pub given_seen : (persons : ℕ) (o : Option ModelOf) (m : ModelOf) (input : Values) (env : Env) → IsInput persons o input → o ≡ Some m → env.input ≡ input → env.output ≡ [] → IsTrue (has_parts (parts_of m.input m.output) env)
given_seen persons o m input env given at same none =
    let kinds = parts_of m.input m.output in
    let P : Option ModelOf → Type 0 = λ x. IsInput persons x input in
    let Q : Values → Type 0 = λ vs. IsTrue (values_fit kinds Input vs && values_fit kinds Output env.output) in
    let R : Values → Type 0 = λ vs. IsTrue (values_fit kinds Input input && values_fit kinds Output vs) in
    subst Q (sym same) (subst R (sym none) (may_see kinds persons input [] (subst P at given) (record { declared = refl; known = refl; texts_within = refl; moments_within = refl })))

-- what a row holds that fits
pub row_seen : (m : ModelOf) (persons : ℕ) (row : Row) → IsHeldBy persons m row.input row.output row.taken → IsTrue (has_parts (parts_of m.input m.output) (env_of row))
row_seen m persons row held = may_see (parts_of m.input m.output) persons row.input row.output held.input held.output

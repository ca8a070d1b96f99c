-- Worked examples of what a text is read as, and of its value. A wrong reading of one fails the check.
use Rattle.std.proofs.Common.{arith}
use Rattle.std.specs.Prelude.{◌≡◌, [], refl, codes, Ok, true, pos, negsuc}
use Rattle.ht_expr.specs.declared.operator.Operator.TheVariants as operator
use Rattle.ht_expr.specs.Trees.{Tree, an_expression, integer, negative, binary}
use Rattle.ht_expr.proofs.PublicLaws.{IsAnswer, spelled_row, tree_row}
use Rattle.ht_value.specs.declared.environment.Env.{Env}
use Rattle.ht_value.specs.Values.{a_number, a_truth, value}

abbrev seven : Tree
seven = binary operator.Equal (binary operator.Plus (integer 1) (binary operator.Times (integer 2) (integer 3))) (integer 7)

seven_is_read : IsAnswer [] an_expression (codes "1 + 2 * 3 == 7") (Ok seven)
seven_is_read =
    tree_row [] _ _ _
    (spelled_row _ _ _ (omega arith, omega arith, ((omega arith, omega arith, ((omega arith, omega arith, tt), (omega arith, omega arith, ((omega arith, omega arith, tt), (omega arith, omega arith, tt))))), (omega arith, omega arith, tt))) refl refl refl refl) refl

seven_is_true : (env : Env) → value [] env seven ≡ a_truth true
seven_is_true env = refl

abbrev above : Tree
above = binary operator.Plus (integer 9223372036854775807) (integer 1)

above_is_read : IsAnswer [] an_expression (codes "9223372036854775807 + 1") (Ok above)
above_is_read = tree_row [] _ _ _ (spelled_row _ _ _ (omega arith, omega arith, ((omega arith, omega arith, tt), (omega arith, omega arith, tt))) refl refl refl refl) refl

above_is_clamped : (env : Env) → value [] env above ≡ a_number (pos 9223372036854775807)
above_is_clamped env = refl

abbrev below : Tree
below = binary operator.Minus (negative (integer 9223372036854775807)) (integer 2)

below_is_read : IsAnswer [] an_expression (codes "-9223372036854775807 - 2") (Ok below)
below_is_read = tree_row [] _ _ _ (spelled_row _ _ _ (omega arith, omega arith, ((omega arith, omega arith, (omega arith, omega arith, tt)), (omega arith, omega arith, tt))) refl refl refl refl) refl

below_is_clamped : (env : Env) → value [] env below ≡ a_number (negsuc 9223372036854775807)
below_is_clamped env = refl

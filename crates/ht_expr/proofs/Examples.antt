-- Worked examples of what a text is read as, or why it isn't. A wrong reading of one fails the check.
use Rattle.std.proofs.Common.{arith}
use Rattle.std.specs.Prelude.{◌∷◌, ◌++◌, [], refl, replicate, codes, Ok, Err, true}
use Rattle.ht_base.specs.declared.kind.Kind.TheVariants.{Person, Text}
use Rattle.ht_expr.specs.declared.kinds.Side.TheVariants.{Input}
use Rattle.ht_expr.specs.declared.operator.Operator.TheVariants as operator
use Rattle.ht_expr.specs.declared.refusal.ExprRefusal.TheVariants as refusal
use Rattle.ht_expr.specs.Trees.{an_assignment, an_expression, integer, truth, priority, text, part, binary, nobody, everybody, initiator, user, group, except, when}
use Rattle.ht_expr.proofs.Walking.{IsAnswer, kind_row, long_row, shape_row, spelled_row, token_row, tree_row}

left_and_right : IsAnswer [] an_assignment (codes "except(everybody, initiator)") (Ok (except everybody initiator))
left_and_right = tree_row [] _ _ _ (spelled_row _ _ _ (omega arith, omega arith, ((omega arith, omega arith, tt), (omega arith, omega arith, tt))) refl refl refl refl) refl

blanks_inside : IsAnswer [] an_assignment (codes "  user ( ' a, (b) ')") (Ok (user (codes " a, (b) ")))
blanks_inside = tree_row [] _ _ _ (spelled_row _ _ _ (omega arith, omega arith, tt) refl refl refl refl) refl

branches : IsAnswer [] an_assignment (codes "when(true, nobody, group('c'))") (Ok (when (truth true) nobody (group (codes "c"))))
branches = tree_row [] _ _ _ (spelled_row _ _ _ (omega arith, omega arith, ((omega arith, omega arith, tt), (omega arith, omega arith, tt), (omega arith, omega arith, tt))) refl refl refl refl) refl

minus_leans_left : IsAnswer [] an_expression (codes "1 - 2 - 3") (Ok (binary operator.Minus (binary operator.Minus (integer 1) (integer 2)) (integer 3)))
minus_leans_left = tree_row [] _ _ _ (spelled_row _ _ _ (omega arith, omega arith, ((omega arith, omega arith, ((omega arith, omega arith, tt), (omega arith, omega arith, tt))), (omega arith, omega arith, tt))) refl refl refl refl) refl

no_such_sign : IsAnswer [] an_expression (codes "1 $ 2") (Err (refusal.Token 2))
no_such_sign = token_row [] _ _ _ refl

a_tab : IsAnswer [] an_assignment (codes "nobody" ++ 9 ∷ []) (Err (refusal.Token 6))
a_tab = token_row [] _ _ _ refl

an_unclosed_text : IsAnswer [] an_assignment (codes "user('anna)") (Err (refusal.Token 5))
an_unclosed_text = token_row [] _ _ _ refl

one_equals_sign : IsAnswer [] an_expression (codes "a = b") (Err (refusal.Token 2))
one_equals_sign = token_row [] _ _ _ refl

too_great_a_number : IsAnswer [] an_expression (codes "9223372036854775808") (Err (refusal.Token 0))
too_great_a_number = token_row [] _ _ _ refl

no_token_goes_before_the_length : IsAnswer [] an_expression (replicate 129 40 ++ 36 ∷ []) (Err (refusal.Token 129))
no_token_goes_before_the_length = token_row [] _ _ _ refl

the_greatest_number : IsAnswer [] an_expression (codes "9223372036854775807") (Ok (integer 9223372036854775807))
the_greatest_number = tree_row [] _ _ _ (spelled_row _ _ _ (omega arith, omega arith, tt) refl refl refl refl) refl

one_hundred_and_twenty_nine_tokens : IsAnswer [] an_expression (replicate 129 40) (Err refusal.TooLong)
one_hundred_and_twenty_nine_tokens = long_row [] _ _ refl refl

one_hundred_and_twenty_eight_tokens : IsAnswer [] an_expression (replicate 128 40) (Err (refusal.Shape 128))
one_hundred_and_twenty_eight_tokens = shape_row [] _ _ _ (omega arith) refl refl refl refl

an_early_end : IsAnswer [] an_expression (codes "1 +") (Err (refusal.Shape 3))
an_early_end = shape_row [] _ _ _ (omega arith) refl refl refl refl

no_chain : IsAnswer [] an_expression (codes "1 == 2 == 3") (Err (refusal.Shape 7))
no_chain = shape_row [] _ _ _ (omega arith) refl refl refl refl

no_choice_in_an_operand : IsAnswer [] an_expression (codes "1 + if 2 then 3 else 4") (Err (refusal.Shape 4))
no_choice_in_an_operand = shape_row [] _ _ _ (omega arith) refl refl refl refl

no_negation_in_a_sum : IsAnswer [] an_expression (codes "1 + not 2") (Err (refusal.Shape 4))
no_negation_in_a_sum = shape_row [] _ _ _ (omega arith) refl refl refl refl

no_assignment : IsAnswer [] an_expression (codes "nobody") (Err (refusal.Shape 0))
no_assignment = shape_row [] _ _ _ (omega arith) refl refl refl refl

no_expression : IsAnswer [] an_assignment (codes "union(true, nobody)") (Err (refusal.Shape 6))
no_expression = shape_row [] _ _ _ (omega arith) refl refl refl refl

no_output : IsAnswer [] an_assignment (codes "union(out.owner, nobody)") (Err (refusal.Shape 6))
no_output = shape_row [] _ _ _ (omega arith) refl refl refl refl

nothing : IsAnswer [] an_assignment ([]) (Err (refusal.Shape 0))
nothing = shape_row [] _ _ _ (omega arith) refl refl refl refl

blanks_at_the_end : IsAnswer [] an_assignment (codes "user('anna'  ") (Err (refusal.Shape 13))
blanks_at_the_end = shape_row [] _ _ _ (omega arith) refl refl refl refl

-- texts of wrong kinds, or of right ones

no_number_equals_a_text : IsAnswer [] an_expression (codes "priority == 'a'") (Err refusal.BadKind)
no_number_equals_a_text = kind_row [] _ _ (binary operator.Equal priority (text (codes "a"))) (spelled_row _ _ _ (omega arith, omega arith, ((omega arith, omega arith, tt), (omega arith, omega arith, tt))) refl refl refl refl) refl

no_such_part : IsAnswer [] an_assignment (codes "in.owner") (Err refusal.BadKind)
no_such_part = kind_row [] _ _ (part Input (codes "owner")) (spelled_row _ _ _ (omega arith, omega arith, tt) refl refl refl refl) refl

a_person_is_found : IsAnswer ((Input, codes "owner", Person) ∷ []) an_assignment (codes "in.owner") (Ok (part Input (codes "owner")))
a_person_is_found = tree_row _ _ _ _ (spelled_row _ _ _ (omega arith, omega arith, tt) refl refl refl refl) refl

no_text_is_found : IsAnswer ((Input, codes "owner", Text) ∷ []) an_assignment (codes "in.owner") (Err refusal.BadKind)
no_text_is_found = kind_row _ _ _ (part Input (codes "owner")) (spelled_row _ _ _ (omega arith, omega arith, tt) refl refl refl refl) refl

-- shape is told before kinds
shape_goes_first : IsAnswer [] an_expression (codes "1 == 'a' == 2") (Err (refusal.Shape 9))
shape_goes_first = shape_row [] _ _ _ (omega arith) refl refl refl refl

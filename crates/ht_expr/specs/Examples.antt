-- Worked examples of the definitions. A wrong reading of one fails the check.
use Rattle.std.specs.Prelude.{◌≡◌, refl, [], ◌∷◌, codes, true, false, length, map}
use Rattle.std.specs.Str.Parse.{digits_value}
use Rattle.ht_expr.specs.declared.keyword.Keyword.TheVariants as keyword
use Rattle.ht_expr.specs.declared.kinds.Side.TheVariants.{Input, Output}
use Rattle.ht_expr.specs.declared.operator.Operator.TheVariants as operator
use Rattle.ht_expr.specs.declared.token.Mark.TheVariants.{Open, Close, Comma, Dot, Minus, LessOrEqual}
use Rattle.ht_expr.specs.Assignments.{parts, is_individual, is_plain}
use Rattle.ht_expr.specs.Keywords.{said}
use Rattle.ht_expr.specs.Tokens.{number, quoted, word, mark, mark_bytes, is_digits, is_text_byte, is_word}
use Rattle.ht_expr.specs.Trees.{integer, truth, part, is_set, brackets, negative, opposite, binary, choice, nobody, everybody, initiator, user, group, union, intersect, except, when}
use Rattle.ht_expr.specs.Trees.{least, left, most, tokens_of}

a_user : tokens_of (user (codes "anna")) ≡ word (codes "user") ∷ mark Open ∷ quoted (codes "anna") ∷ mark Close ∷ []
a_user = refl

the_first_operand_is_left : tokens_of (except everybody initiator) ≡ said keyword.Except ∷ mark Open ∷ said keyword.Everybody ∷ mark Comma ∷ said keyword.Initiator ∷ mark Close ∷ []
the_first_operand_is_left = refl

-- 1 - 2 - 3 is (1 - 2) - 3
minus_leans_left : tokens_of (binary operator.Minus (binary operator.Minus (integer 1) (integer 2)) (integer 3)) ≡ number 1 ∷ mark Minus ∷ number 2 ∷ mark Minus ∷ number 3 ∷ []
minus_leans_left = refl

a_part_named_if : tokens_of (part Input (codes "if")) ≡ word (codes "in") ∷ mark Dot ∷ word (codes "if") ∷ []
a_part_named_if = refl

a_part_that_is_set : length (tokens_of (is_set Output (codes "a"))) ≡ 6
a_part_that_is_set = refl

branches_in_their_order : tokens_of (choice (truth true) (integer 1) (negative (integer 2))) ≡
    said keyword.If ∷ said keyword.True ∷ said keyword.Then ∷ number 1 ∷ said keyword.Else ∷ mark Minus ∷ number 2 ∷ []
branches_in_their_order = refl

branches_of_when : tokens_of (when (truth false) nobody (part Input (codes "a"))) ≡
    word (codes "when") ∷ mark Open ∷ said keyword.False ∷ mark Comma ∷ said keyword.Nobody ∷ mark Comma ∷ word (codes "in") ∷ mark Dot ∷ word (codes "a") ∷ mark Close ∷ []
branches_of_when = refl

-- from loose to tight
levels_ascend : map most (choice nobody nobody nobody ∷ binary operator.Or nobody nobody ∷ binary operator.And nobody nobody ∷ opposite nobody ∷ binary operator.Less nobody nobody ∷ []) ≡ 0 ∷ 1 ∷ 2 ∷ 3 ∷ 4 ∷ []
levels_ascend = refl

and_further : map most (binary operator.Plus nobody nobody ∷ binary operator.Times nobody nobody ∷ negative nobody ∷ brackets nobody ∷ []) ≡ 5 ∷ 6 ∷ 7 ∷ 8 ∷ []
and_further = refl

no_chains_of_comparisons : map left (operator.Equal ∷ operator.Less ∷ operator.Minus ∷ operator.Times ∷ []) ≡ 5 ∷ 5 ∷ 5 ∷ 6 ∷ []
no_chains_of_comparisons = refl

only_inputs_are_assignments : map most (part Input [] ∷ part Output [] ∷ initiator ∷ []) ≡ 9 ∷ 8 ∷ 9 ∷ []
only_inputs_are_assignments = refl

groups_are_no_expressions : map least (group [] ∷ when nobody nobody nobody ∷ initiator ∷ []) ≡ 9 ∷ 9 ∷ 0 ∷ []
groups_are_no_expressions = refl

one_mark_of_two_signs : mark_bytes LessOrEqual ≡ codes "<="
one_mark_of_two_signs = refl

a_word_goes_on_with_digits : is_word (codes "a_1") ≡ true
a_word_goes_on_with_digits = refl

no_word_begins_with_a_digit : is_word (codes "1a") ≡ false
no_word_begins_with_a_digit = refl

no_word_begins_with_a_line : is_word (codes "_a") ≡ false
no_word_begins_with_a_line = refl

no_digits : is_digits [] ≡ false
no_digits = refl

zeros_may_lead : digits_value 10 (codes "0012") ≡ 12
zeros_may_lead = refl

a_blank_in_a_text : map is_text_byte (31 ∷ 32 ∷ 39 ∷ 127 ∷ 255 ∷ []) ≡ false ∷ true ∷ false ∷ true ∷ true ∷ []
a_blank_in_a_text = refl

a_user_is_individual : is_individual (except (user (codes "anna")) initiator) ≡ true
a_user_is_individual = refl

everybody_is_not : is_individual (except everybody (user (codes "anna"))) ≡ false
everybody_is_not = refl

a_group_deep_inside : is_individual (union nobody (intersect initiator (except nobody (group (codes "clerks"))))) ≡ false
a_group_deep_inside = refl

a_group_in_a_branch : is_individual (when (truth true) nobody (group (codes "clerks"))) ≡ false
a_group_in_a_branch = refl

an_input_deep_inside : map is_plain (union nobody (except (part Input (codes "a")) nobody) ∷ union nobody (user (codes "a")) ∷ []) ≡ false ∷ true ∷ []
an_input_deep_inside = refl

all_that_it_holds : parts (union nobody (user [])) ≡ union nobody (user []) ∷ nobody ∷ user [] ∷ []
all_that_it_holds = refl

-- Worked examples of kinds. A wrong reading of one fails the check.
use Rattle.std.specs.Prelude.{◌≡◌, refl, List, [], ◌∷◌, codes, true, false, map, Some, None}
use Rattle.ht_base.specs.declared.kind.Kind.TheVariants.{Text, Int, Truth, Person, Instant}
use Rattle.ht_expr.specs.declared.kinds.Side.TheVariants.{Input, Output}
use Rattle.ht_expr.specs.declared.operator.Operator.TheVariants as operator
use Rattle.ht_expr.specs.KindTable.{kind_of, kinds_fit}
use Rattle.ht_expr.specs.Kinds.{Declared, declared_kind}
use Rattle.ht_expr.specs.Trees.{Tree, an_assignment, an_expression, integer, text, truth, priority, initiator, part, is_set, binary, choice, union, when, nobody}

-- a part of each kind
abbrev pub kinds : Declared
kinds =
    (Input, codes "t", Text) ∷ (Input, codes "i", Int) ∷ (Input, codes "b", Truth) ∷ (Input, codes "p", Person) ∷ (Input, codes "m", Instant)
    ∷ (Output, codes "q", Person) ∷ (Output, codes "n", Instant) ∷ []

abbrev pub equals : Tree → Tree → Tree
equals a b = binary operator.Equal a b

abbrev pub inputs : List Tree
inputs = part Input (codes "t") ∷ part Input (codes "i") ∷ part Input (codes "b") ∷ part Input (codes "p") ∷ part Input (codes "m") ∷ []

the_first_declaration_counts : declared_kind ((Input, codes "a", Int) ∷ (Input, codes "a", Text) ∷ []) Input (codes "a") ≡ Some Int
the_first_declaration_counts = refl

each_side_has_its_own : declared_kind ((Input, codes "a", Int) ∷ []) Output (codes "a") ≡ None
each_side_has_its_own = refl

no_number_equals_a_text : kind_of [] (equals priority (text (codes "a"))) ≡ None
no_number_equals_a_text = refl

a_branch_that_is_never_taken : map (kind_of []) (choice (truth true) (integer 1) (text (codes "a")) ∷ choice (truth true) (integer 1) (part Input (codes "x")) ∷ []) ≡ None ∷ None ∷ []
a_branch_that_is_never_taken = refl

branches_of_one_kind : kind_of [] (choice (truth true) initiator initiator) ≡ Some Person
branches_of_one_kind = refl

only_numbers_and_moments_are_ordered : map (λ a. kind_of kinds (binary operator.Less a a)) inputs ≡ None ∷ Some Truth ∷ None ∷ None ∷ Some Truth ∷ []
only_numbers_and_moments_are_ordered = refl

all_are_equal_to_their_like : map (λ a. kind_of kinds (equals a a)) inputs ≡ Some Truth ∷ Some Truth ∷ Some Truth ∷ Some Truth ∷ Some Truth ∷ []
all_are_equal_to_their_like = refl

a_part_of_each_kind_may_be_set : map (λ n. kind_of kinds (is_set Input n)) (codes "t" ∷ codes "i" ∷ codes "b" ∷ codes "p" ∷ codes "m" ∷ codes "x" ∷ []) ≡ Some Truth ∷ Some Truth ∷ Some Truth ∷ Some Truth ∷ Some Truth ∷ None ∷ []
a_part_of_each_kind_may_be_set = refl

only_persons_are_found : map (kinds_fit kinds an_assignment) inputs ≡ false ∷ false ∷ false ∷ true ∷ false ∷ []
only_persons_are_found = refl

a_test_is_a_truth : map (λ t. kinds_fit kinds an_assignment (union nobody (when t nobody nobody))) (part Input (codes "i") ∷ part Input (codes "b") ∷ []) ≡ false ∷ true ∷ []
a_test_is_a_truth = refl

a_person_is_an_expression_too : kinds_fit kinds an_expression (part Input (codes "p")) ≡ true
a_person_is_an_expression_too = refl

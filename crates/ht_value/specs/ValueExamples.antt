-- Worked examples of values. A wrong reading of one fails the check.
use Rattle.std.specs.Prelude.{◌≡◌, refl, pos, negsuc, List, ℕ, [], ◌∷◌, codes, true, false, map, Some, None}
use Rattle.ht_base.specs.State.{all_states}
use Rattle.ht_base.specs.declared.state.State.TheVariants.{Completed, Failed, InProgress}
use Rattle.ht_base.specs.declared.value.Value.{Value}
use Rattle.ht_base.specs.declared.value.Value.TheVariants as values
use Rattle.ht_value.specs.declared.environment.Env.{Env}
use Rattle.ht_expr.specs.declared.kinds.Side.TheVariants.{Input, Output}
use Rattle.ht_expr.specs.declared.node.Count.TheVariants.{Made, Finished, Done}
use Rattle.ht_expr.specs.declared.operator.Operator.TheVariants as operator
use Rattle.ht_value.specs.Environment.{SubTask, counted, has_parts, text_count, true_count}
use Rattle.ht_expr.specs.KindExamples.{equals, inputs, kinds}
use Rattle.ht_expr.specs.Trees.{Tree, integer, truth, priority, initiator, part, is_set, negative, binary, choice}
use Rattle.ht_value.specs.Values.{Outcome, a_text, a_number, a_truth, a_person, a_moment, value}

abbrev env_with : List (List ℕ × Value) → List (List ℕ × Value) → Env
env_with input output = record { input = input; output = output; priority = pos 4; initiator = 7; subs = [] }

-- no part has a value
abbrev bare : Env
bare = env_with [] []

abbrev full : Env
full =
    env_with ((codes "b", values.Truth true) ∷ (codes "i", values.Int (negsuc 4)) ∷ (codes "m", values.Instant (record { 0 = 5 })) ∷ (codes "p", values.Person 7) ∷ (codes "t", values.Text (codes "x")) ∷ [])
    ((codes "n", values.Instant (record { 0 = 6 })) ∷ (codes "q", values.Person 8) ∷ [])

-- ---- parts

unset_parts : map (value kinds bare) inputs ≡ a_text [] ∷ a_number (pos 0) ∷ a_truth false ∷ a_person None ∷ a_moment 0 ∷ []
unset_parts = refl

parts_with_values : map (value kinds full) inputs ≡ a_text (codes "x") ∷ a_number (negsuc 4) ∷ a_truth true ∷ a_person (Some 7) ∷ a_moment 5 ∷ []
parts_with_values = refl

whether_they_are_set : map (λ n. value kinds full (is_set Input n)) (codes "t" ∷ codes "i" ∷ codes "b" ∷ codes "p" ∷ codes "m" ∷ codes "q" ∷ []) ≡ a_truth true ∷ a_truth true ∷ a_truth true ∷ a_truth true ∷ a_truth true ∷ a_truth false ∷ []
whether_they_are_set = refl

of_their_kinds : map (has_parts kinds) (full ∷ bare ∷ env_with ((codes "i", values.Truth true) ∷ []) [] ∷ env_with ((codes "x", values.Truth true) ∷ []) [] ∷ []) ≡ true ∷ true ∷ false ∷ true ∷ []
of_their_kinds = refl

-- ---- comparisons

nobody_equals_nobody : value kinds bare (equals (part Input (codes "p")) (part Output (codes "q"))) ≡ a_truth true
nobody_equals_nobody = refl

nobody_equals_nobody_alone : map (λ e. value kinds bare e) (equals (part Input (codes "p")) initiator ∷ equals initiator (part Input (codes "p")) ∷ []) ≡ a_truth false ∷ a_truth false ∷ []
nobody_equals_nobody_alone = refl

persons_are_themselves : map (value kinds full) (equals (part Input (codes "p")) initiator ∷ equals (part Output (codes "q")) initiator ∷ []) ≡ a_truth true ∷ a_truth false ∷ []
persons_are_themselves = refl

moments_are_ordered :
    map (λ o. value kinds full (binary o (part Input (codes "m")) (part Output (codes "n")))) (operator.Less ∷ operator.LessOrEqual ∷ operator.Greater ∷ operator.GreaterOrEqual ∷ operator.Equal ∷ operator.NotEqual ∷ [])
    ≡ a_truth true ∷ a_truth true ∷ a_truth false ∷ a_truth false ∷ a_truth false ∷ a_truth true ∷ []
moments_are_ordered = refl

-- an unset moment is 0
one_moment : map (λ o. value kinds bare (binary o (part Input (codes "m")) (part Output (codes "n")))) (operator.Less ∷ operator.LessOrEqual ∷ operator.Greater ∷ operator.GreaterOrEqual ∷ operator.Equal ∷ [])
    ≡ a_truth false ∷ a_truth true ∷ a_truth false ∷ a_truth true ∷ a_truth true ∷ []
one_moment = refl

numbers_are_ordered : value kinds full (binary operator.Less (part Input (codes "i")) priority) ≡ a_truth true
numbers_are_ordered = refl

the_branch_that_is_chosen : map (value kinds bare) (choice (truth true) (integer 1) (integer 2) ∷ choice (truth false) (integer 1) (integer 2) ∷ []) ≡ a_number (pos 1) ∷ a_number (pos 2) ∷ []
the_branch_that_is_chosen = refl

truths : map (λ o. value [] bare (binary o (truth true) (truth false))) (operator.Or ∷ operator.And ∷ operator.Equal ∷ []) ≡ a_truth true ∷ a_truth false ∷ a_truth false ∷ []
truths = refl

-- ---- numbers

abbrev greatest : Tree
greatest = integer 9223372036854775807

abbrev least : Tree
least = binary operator.Minus (negative greatest) (integer 1)

abbrev at_greatest : Outcome
at_greatest = a_number (pos 9223372036854775807)

abbrev at_least : Outcome
at_least = a_number (negsuc 9223372036854775807)

seven : value [] bare (equals (binary operator.Plus (integer 1) (binary operator.Times (integer 2) (integer 3))) (integer 7)) ≡ a_truth true
seven = refl

sums_are_clamped : map (value [] bare) (binary operator.Plus greatest (integer 1) ∷ binary operator.Plus least (negative (integer 1)) ∷ []) ≡ at_greatest ∷ at_least ∷ []
sums_are_clamped = refl

differences_are_clamped : map (value [] bare) (binary operator.Minus greatest (negative (integer 2)) ∷ binary operator.Minus (negative greatest) (integer 2) ∷ []) ≡ at_greatest ∷ at_least ∷ []
differences_are_clamped = refl

products_are_clamped : map (value [] bare) (binary operator.Times greatest (integer 2) ∷ binary operator.Times least greatest ∷ binary operator.Times least least ∷ []) ≡ at_greatest ∷ at_least ∷ at_greatest ∷ []
products_are_clamped = refl

a_sign_is_clamped : map (value [] bare) (negative least ∷ negative greatest ∷ []) ≡ at_greatest ∷ a_number (negsuc 9223372036854775806) ∷ []
a_sign_is_clamped = refl

-- each operation is clamped by itself, not the whole
clamped_on_the_way : value [] bare (binary operator.Minus (binary operator.Plus greatest (integer 1)) (integer 1)) ≡ a_number (pos 9223372036854775806)
clamped_on_the_way = refl

-- ---- sub tasks

abbrev in_each_state : List SubTask
in_each_state = map (λ s. (s, [])) all_states

of_twelve : map (λ c. counted c in_each_state) (Made ∷ Finished ∷ Done ∷ []) ≡ 12 ∷ 5 ∷ 1 ∷ []
of_twelve = refl

-- completed with the part, with another text, with another kind, without the part; and failed and open with the part
abbrev voted : List SubTask
voted =
    (Completed, (codes "v", values.Text (codes "yes")) ∷ []) ∷ (Completed, (codes "v", values.Text (codes "no")) ∷ []) ∷ (Completed, (codes "v", values.Truth true) ∷ [])
    ∷ (Completed, (codes "w", values.Text (codes "yes")) ∷ []) ∷ (Failed, (codes "v", values.Text (codes "yes")) ∷ []) ∷ (InProgress, (codes "v", values.Truth true) ∷ []) ∷ []

counted_texts : text_count (codes "v") (codes "yes") voted ≡ 1
counted_texts = refl

counted_truths : true_count (codes "v") voted ≡ 1
counted_truths = refl

-- an unset part is no empty text there
unset_is_no_text : text_count (codes "v") [] ((Completed, []) ∷ []) ≡ 0
unset_is_no_text = refl

-- Worked examples of what is wrong with models. A wrong reading of one fails the check.
use Rattle.std.specs.Prelude.{◌≡◌, ℕ, refl, true, false, List, [], ◌∷◌, Some, None, codes}
use Rattle.ht_base.specs.declared.how.How.TheVariants as how
use Rattle.ht_base.specs.declared.kind.Kind.TheVariants.{Text, Int, Instant}
use Rattle.ht_entries.specs.declared.choices.Delegation.TheVariants.{Anybody}
use Rattle.ht_entries.specs.declared.choices.Trigger.TheVariants.{Manual, Automatic}
use Rattle.ht_entries.specs.declared.deadlines.DeadlineKind.TheVariants.{Start, Completion}
use Rattle.ht_models.specs.Contradictions.{has_early_default, has_undated_deadline, has_unfit_finish, has_unfit_sub, is_contradicted, owns_without_need, waits_for_owner}
use Rattle.ht_entries.specs.Deadlines.{DeadlineText, EscalationText, deadline_text, escalation_text}
use Rattle.ht_models.specs.EntryExamples.{bare}
use Rattle.ht_entries.specs.Finishes.{FinishText, finish_text, setting}
use Rattle.ht_models.specs.Limits.{has_too_large_tree, holds_too_much}
use Rattle.ht_entries.specs.ModelEntries.{ModelEntry}
use Rattle.ht_entries.specs.Parts.{Part, part}
use Rattle.ht_models.specs.Repeats.{repeats_name}
use Rattle.ht_entries.specs.SubEntries.{SubEntry, sub_entry}
use Rattle.ht_models.specs.SubTrees.{is_too_deep, names_unknown_model, size_of, subs_at}

-- ---- names that stand twice

abbrev text_parts : List (List ℕ) → List Part
text_parts [] = []
text_parts (name ∷ names) = part name Text false ∷ text_parts names

one_name_on_either_side : repeats_name (record (bare (codes "m")) { input = text_parts (codes "p" ∷ []); output = text_parts (codes "p" ∷ []) }) ≡ false
one_name_on_either_side = refl

two_inputs_of_one_name : repeats_name (record (bare (codes "m")) { input = text_parts (codes "p" ∷ codes "q" ∷ codes "p" ∷ []) }) ≡ true
two_inputs_of_one_name = refl

two_outputs_of_one_name : repeats_name (record (bare (codes "m")) { output = text_parts (codes "p" ∷ codes "p" ∷ []) }) ≡ true
two_outputs_of_one_name = refl

abbrev notifications : List (List ℕ) → List EscalationText
notifications [] = []
notifications (name ∷ names) = escalation_text name None (Some (codes "nobody")) None ∷ notifications names

-- a deadline of this name, with escalations of these
abbrev escalating : List ℕ → List (List ℕ) → DeadlineText
escalating name names = deadline_text name Start (Some 1) None None (notifications names)

one_escalation_of_two_deadlines : repeats_name (record (bare (codes "m")) { deadlines = escalating (codes "a") (codes "x" ∷ []) ∷ escalating (codes "b") (codes "x" ∷ []) ∷ [] }) ≡ false
one_escalation_of_two_deadlines = refl

two_deadlines_of_one_name : repeats_name (record (bare (codes "m")) { deadlines = escalating (codes "a") [] ∷ escalating (codes "a") [] ∷ [] }) ≡ true
two_deadlines_of_one_name = refl

two_escalations_of_one_name : repeats_name (record (bare (codes "m")) { deadlines = escalating (codes "a") [] ∷ escalating (codes "b") (codes "x" ∷ codes "x" ∷ []) ∷ [] }) ≡ true
two_escalations_of_one_name = refl

-- ---- trees

-- sub entries of these models
abbrev subs : List (List ℕ) → List SubEntry
subs [] = []
subs (m ∷ ms) = sub_entry (codes "x") m [] ∷ subs ms

abbrev composed : List ℕ → List (List ℕ) → ModelEntry
composed name models = record (bare name) { subs = subs models }

two_of_one_model : subs_at (composed (codes "a") (codes "b" ∷ codes "b" ∷ []) ∷ bare (codes "b") ∷ []) 0 ≡ 1 ∷ 1 ∷ []
two_of_one_model = refl

a_model_that_is_not_there : names_unknown_model (bare (codes "b") ∷ []) (composed (codes "a") (codes "b" ∷ codes "c" ∷ [])) ≡ true
a_model_that_is_not_there = refl

-- a, of two b and a c, of which each b has two c
abbrev tree : List ModelEntry
tree = composed (codes "a") (codes "b" ∷ codes "b" ∷ codes "c" ∷ []) ∷ composed (codes "b") (codes "c" ∷ codes "c" ∷ []) ∷ bare (codes "c") ∷ []

size_of_a_tree : size_of tree 0 ≡ 8
size_of_a_tree = refl

size_of_a_leaf : size_of tree 2 ≡ 1
size_of_a_leaf = refl

-- six models, of which each has the next below it
abbrev six : List ModelEntry
six =
    composed (codes "a") (codes "b" ∷ []) ∷ composed (codes "b") (codes "c" ∷ []) ∷ composed (codes "c") (codes "d" ∷ [])
    ∷ composed (codes "d") (codes "e" ∷ []) ∷ composed (codes "e") (codes "f" ∷ []) ∷ bare (codes "f") ∷ []

six_levels : is_too_deep six 0 ≡ true
six_levels = refl

five_levels : is_too_deep six 1 ≡ false
five_levels = refl

abbrev eight : List ℕ → List (List ℕ)
eight m = m ∷ m ∷ m ∷ m ∷ m ∷ m ∷ m ∷ m ∷ []

-- three levels of eight sub tasks each below a model
abbrev wide : List ModelEntry
wide = composed (codes "a") (eight (codes "b")) ∷ composed (codes "b") (eight (codes "c")) ∷ composed (codes "c") (eight (codes "d")) ∷ bare (codes "d") ∷ []

size_of_three_levels : size_of wide 0 ≡ 585
size_of_three_levels = refl

too_large : has_too_large_tree wide 0 ≡ true
too_large = refl

not_too_large : has_too_large_tree wide 1 ≡ false
not_too_large = refl

too_deep : has_too_large_tree six 0 ≡ true
too_deep = refl

-- ---- limits

eight_inputs : holds_too_much (record (bare (codes "m")) { input = text_parts (codes "a" ∷ codes "b" ∷ codes "c" ∷ codes "d" ∷ codes "e" ∷ codes "f" ∷ codes "g" ∷ codes "h" ∷ []) }) ≡ false
eight_inputs = refl

nine_inputs : holds_too_much (record (bare (codes "m")) { input = text_parts (codes "a" ∷ codes "b" ∷ codes "c" ∷ codes "d" ∷ codes "e" ∷ codes "f" ∷ codes "g" ∷ codes "h" ∷ codes "i" ∷ []) }) ≡ true
nine_inputs = refl

abbrev completing : List ℕ → DeadlineText
completing name = deadline_text name Completion (Some 1) None None []

two_of_either_kind : holds_too_much (record (bare (codes "m")) { deadlines = escalating (codes "a") [] ∷ escalating (codes "b") [] ∷ completing (codes "c") ∷ completing (codes "d") ∷ [] }) ≡ false
two_of_either_kind = refl

three_of_one_kind : holds_too_much (record (bare (codes "m")) { deadlines = completing (codes "a") ∷ completing (codes "b") ∷ completing (codes "c") ∷ [] }) ≡ true
three_of_one_kind = refl

four_escalations : holds_too_much (record (bare (codes "m")) { deadlines = escalating (codes "a") (codes "a" ∷ codes "b" ∷ codes "c" ∷ codes "d" ∷ []) ∷ [] }) ≡ false
four_escalations = refl

five_escalations : holds_too_much (record (bare (codes "m")) { deadlines = escalating (codes "a") (codes "a" ∷ codes "b" ∷ codes "c" ∷ codes "d" ∷ codes "e" ∷ []) ∷ [] }) ≡ true
five_escalations = refl

-- ---- contradictions

-- tasks that need no owner, and begin and end by themselves
abbrev ownerless : ModelEntry
ownerless = record (bare (codes "m")) { owner_required = false; instantiation = Automatic; completion = Automatic }

nothing_contradicts : is_contradicted [] ownerless ≡ false
nothing_contradicts = refl

excluded_owners_may_be_given : is_contradicted [] (record ownerless { excluded_owners = Some (codes "nobody") }) ≡ false
excluded_owners_may_be_given = refl

owners_without_need : owns_without_need (record ownerless { potential_owners = Some (codes "nobody") }) ≡ true
owners_without_need = refl

-- also where it is what is meant anyway
delegation_without_need : owns_without_need (record ownerless { delegation = Some Anybody }) ≡ true
delegation_without_need = refl

reassignment_without_need : owns_without_need (record ownerless { deadlines = deadline_text (codes "a") Start (Some 1) None None (escalation_text (codes "x") None None (Some (codes "nobody")) ∷ []) ∷ [] }) ≡ true
reassignment_without_need = refl

notification_without_need : owns_without_need (record ownerless { deadlines = escalating (codes "a") (codes "x" ∷ []) ∷ [] }) ≡ false
notification_without_need = refl

made_by_hand_without_owner : waits_for_owner (record ownerless { instantiation = Manual }) ≡ true
made_by_hand_without_owner = refl

completed_by_hand_without_owner : waits_for_owner (record ownerless { completion = Manual }) ≡ true
completed_by_hand_without_owner = refl

-- a model with an input of kind text, and one with a sub entry of it whose input is mapped so
abbrev child : ModelEntry
child = record (bare (codes "child")) { input = part (codes "p") Text false ∷ [] }

abbrev parent : List ℕ → List ℕ → ModelEntry
parent theirs ours = record (bare (codes "parent")) {
  input = part (codes "t") Text false ∷ part (codes "n") Int false ∷ [];
  subs = sub_entry (codes "x") (codes "child") ((theirs, ours) ∷ []) ∷ [];
}

mapped_to_its_kind : has_unfit_sub (child ∷ []) (parent (codes "p") (codes "t")) ≡ false
mapped_to_its_kind = refl

mapped_to_another_kind : has_unfit_sub (child ∷ []) (parent (codes "p") (codes "n")) ≡ true
mapped_to_another_kind = refl

mapped_from_no_part : has_unfit_sub (child ∷ []) (parent (codes "p") (codes "u")) ≡ true
mapped_from_no_part = refl

mapped_to_no_part : has_unfit_sub (child ∷ []) (parent (codes "q") (codes "t")) ≡ true
mapped_to_no_part = refl

-- deadlines of parts
abbrev dated : List Part → ModelEntry
dated input = record (bare (codes "m")) { input = input; deadlines = deadline_text (codes "a") Start None None (Some (codes "p")) [] ∷ [] }

a_date : has_undated_deadline (dated (part (codes "p") Instant true ∷ [])) ≡ false
a_date = refl

a_date_of_another_kind : has_undated_deadline (dated (part (codes "p") Text true ∷ [])) ≡ true
a_date_of_another_kind = refl

a_date_that_is_not_there : has_undated_deadline (dated []) ≡ true
a_date_that_is_not_there = refl

-- finishes
abbrev finishing : List FinishText → ModelEntry
finishing finishes = record (bare (codes "m")) { output = part (codes "n") Int false ∷ part (codes "t") Text false ∷ []; finishes = finishes }

a_number_set : has_unfit_finish (finishing (finish_text None (setting (codes "n") (codes "x") how.Sum ∷ []) ∷ [])) ≡ false
a_number_set = refl

a_text_set_to_a_number : has_unfit_finish (finishing (finish_text None (setting (codes "t") (codes "x") how.Sum ∷ []) ∷ [])) ≡ true
a_text_set_to_a_number = refl

an_unknown_part_set : has_unfit_finish (finishing (finish_text None (setting (codes "x") (codes "x") how.Sum ∷ []) ∷ [])) ≡ true
an_unknown_part_set = refl

abbrev under_condition : FinishText
under_condition = finish_text (Some (codes "true")) []

abbrev default : FinishText
default = finish_text None []

default_at_the_end : has_early_default (under_condition ∷ default ∷ []) ≡ false
default_at_the_end = refl

default_in_front : has_early_default (default ∷ under_condition ∷ []) ≡ true
default_in_front = refl

two_defaults : has_early_default (default ∷ default ∷ []) ≡ true
two_defaults = refl

no_default : has_early_default (under_condition ∷ under_condition ∷ []) ≡ false
no_default = refl

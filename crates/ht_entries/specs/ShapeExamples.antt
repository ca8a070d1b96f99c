-- Worked examples of what the tables of a model say. A wrong reading of one fails the check.
use Rattle.std.specs.Prelude.{◌≡◌, ℕ, refl, List, [], ◌∷◌, Some, None, codes, is_some, true, false, pos, negsuc}
use Rattle.toml.specs.Data.{Data, Items, Members, array, boolean, integer, item, member, no_items, no_members, string, table}
use Rattle.ht_base.specs.declared.how.How.TheVariants as how
use Rattle.ht_base.specs.declared.kind.Kind.TheVariants.{Text, Person}
use Rattle.ht_entries.specs.declared.deadlines.DeadlineKind.TheVariants.{Start, Completion}
use Rattle.ht_entries.specs.Deadlines.{deadline_of, deadline_text, escalation_of, escalation_text}
use Rattle.ht_entries.specs.Finishes.{finish_of, finish_text, setting, setting_of}
use Rattle.ht_entries.specs.Labels.{label}
use Rattle.ht_entries.specs.Parts.{part, part_of}
use Rattle.ht_entries.specs.SubEntries.{sub_entry, sub_of}

-- a table of these keys
abbrev members : List (List ℕ × Data) → Members
members [] = no_members
members (row ∷ rows) = member row.0 row.1 (members rows)

abbrev pub given : List (List ℕ × Data) → Data
given rows = table (members rows)

abbrev items : List Data → Items
items [] = no_items
items (d ∷ ds) = item d (items ds)

abbrev pub listed : List Data → Data
listed ds = array (items ds)

abbrev pub says : List ℕ → List ℕ → List ℕ × Data
says key text = (key, string text)

-- ---- names of parts

a_label : label (codes "decision_2") ≡ Some (codes "decision_2")
a_label = refl

a_label_with_a_dot : label (codes "in.vote") ≡ None
a_label_with_a_dot = refl

a_label_with_a_hyphen : label (codes "a-b") ≡ None
a_label_with_a_hyphen = refl

a_label_that_begins_with_a_digit : label (codes "2nd") ≡ None
a_label_that_begins_with_a_digit = refl

a_label_that_begins_with_a_line : label (codes "_a") ≡ None
a_label_that_begins_with_a_line = refl

no_label : label [] ≡ None
no_label = refl

-- ---- parts

a_part : part_of (given (says (codes "name") (codes "vote") ∷ says (codes "kind") (codes "text") ∷ [])) ≡ Some (part (codes "vote") Text false)
a_part = refl

an_optional_part : part_of (given (says (codes "name") (codes "boss") ∷ says (codes "kind") (codes "person") ∷ (codes "optional", boolean true) ∷ [])) ≡ Some (part (codes "boss") Person true)
an_optional_part = refl

a_part_without_a_name : part_of (given (says (codes "kind") (codes "text") ∷ [])) ≡ None
a_part_without_a_name = refl

a_part_without_a_kind : part_of (given (says (codes "name") (codes "vote") ∷ [])) ≡ None
a_part_without_a_kind = refl

a_part_of_another_kind : part_of (given (says (codes "name") (codes "vote") ∷ says (codes "kind") (codes "Text") ∷ [])) ≡ None
a_part_of_another_kind = refl

a_part_that_may_be_optional : part_of (given (says (codes "name") (codes "vote") ∷ says (codes "kind") (codes "text") ∷ says (codes "optional") (codes "true") ∷ [])) ≡ None
a_part_that_may_be_optional = refl

a_part_with_another_key : part_of (given (says (codes "name") (codes "vote") ∷ says (codes "kind") (codes "text") ∷ says (codes "value") (codes "yes") ∷ [])) ≡ None
a_part_with_another_key = refl

a_part_that_is_a_text : part_of (string (codes "vote")) ≡ None
a_part_that_is_a_text = refl

-- ---- sub entries

abbrev mapped : Data → Data
mapped input = given (says (codes "name") (codes "x") ∷ says (codes "model") (codes "unit-1.2") ∷ (codes "input", input) ∷ [])

a_sub : sub_of (given (says (codes "name") (codes "x") ∷ says (codes "model") (codes "unit-1.2") ∷ [])) ≡ Some (sub_entry (codes "x") (codes "unit-1.2") [])
a_sub = refl

a_sub_with_input : sub_of (mapped (given (says (codes "a") (codes "b") ∷ says (codes "c") (codes "b") ∷ []))) ≡ Some (sub_entry (codes "x") (codes "unit-1.2") ((codes "a", codes "b") ∷ (codes "c", codes "b") ∷ []))
a_sub_with_input = refl

a_sub_with_empty_input : sub_of (mapped (given [])) ≡ Some (sub_entry (codes "x") (codes "unit-1.2") [])
a_sub_with_empty_input = refl

a_sub_without_a_model : sub_of (given (says (codes "name") (codes "x") ∷ [])) ≡ None
a_sub_without_a_model = refl

a_sub_whose_input_is_a_list : sub_of (mapped (listed [])) ≡ None
a_sub_whose_input_is_a_list = refl

a_sub_whose_input_has_another_key : sub_of (mapped (given (says (codes "a.b") (codes "b") ∷ []))) ≡ None
a_sub_whose_input_has_another_key = refl

a_sub_whose_input_has_another_value : sub_of (mapped (given (says (codes "a") (codes "in-b") ∷ []))) ≡ None
a_sub_whose_input_has_another_value = refl

-- ---- escalations

abbrev escalation : List (List ℕ × Data) → Data
escalation rows = given (says (codes "name") (codes "tell") ∷ rows)

a_notification : escalation_of (escalation (says (codes "notify") (codes "nobody") ∷ [])) ≡ Some (escalation_text (codes "tell") None (Some (codes "nobody")) None)
a_notification = refl

a_reassignment : escalation_of (escalation (says (codes "when") (codes "true") ∷ says (codes "reassign") (codes "?") ∷ [])) ≡ Some (escalation_text (codes "tell") (Some (codes "true")) None (Some (codes "?")))
a_reassignment = refl

an_escalation_without_effect : escalation_of (escalation []) ≡ None
an_escalation_without_effect = refl

an_escalation_with_both_effects : escalation_of (escalation (says (codes "notify") (codes "nobody") ∷ says (codes "reassign") (codes "nobody") ∷ [])) ≡ None
an_escalation_with_both_effects = refl

an_escalation_under_no_text : escalation_of (escalation ((codes "when", boolean true) ∷ says (codes "notify") (codes "nobody") ∷ [])) ≡ None
an_escalation_under_no_text = refl

-- ---- deadlines

abbrev deadline : List (List ℕ × Data) → Data
deadline rows = given (says (codes "name") (codes "one") ∷ says (codes "kind") (codes "start") ∷ rows)

a_deadline_after_a_period : deadline_of (deadline (says (codes "for") (codes "PT10S") ∷ [])) ≡ Some (deadline_text (codes "one") Start (Some 10000) None None [])
a_deadline_after_a_period = refl

a_deadline_at_an_instant : is_some (deadline_of (deadline (says (codes "at") (codes "2026-03-02T09:00:00Z") ∷ []))) ≡ true
a_deadline_at_an_instant = refl

a_deadline_of_a_part : deadline_of (given (says (codes "name") (codes "two") ∷ says (codes "kind") (codes "completion") ∷ says (codes "part") (codes "due") ∷ [])) ≡ Some (deadline_text (codes "two") Completion None None (Some (codes "due")) [])
a_deadline_of_a_part = refl

a_deadline_with_an_escalation : deadline_of (deadline (says (codes "part") (codes "due") ∷ (codes "escalation", listed (escalation (says (codes "notify") (codes "nobody") ∷ []) ∷ [])) ∷ [])) ≡ Some (deadline_text (codes "one") Start None None (Some (codes "due")) (escalation_text (codes "tell") None (Some (codes "nobody")) None ∷ []))
a_deadline_with_an_escalation = refl

a_deadline_with_an_idle_escalation : deadline_of (deadline (says (codes "part") (codes "due") ∷ (codes "escalation", listed (escalation [] ∷ [])) ∷ [])) ≡ None
a_deadline_with_an_idle_escalation = refl

a_deadline_without_an_end : deadline_of (deadline []) ≡ None
a_deadline_without_an_end = refl

a_deadline_with_two_ends : deadline_of (deadline (says (codes "for") (codes "PT10S") ∷ says (codes "part") (codes "due") ∷ [])) ≡ None
a_deadline_with_two_ends = refl

a_deadline_with_three_ends : deadline_of (deadline (says (codes "for") (codes "PT10S") ∷ says (codes "at") (codes "2026-03-02T09:00:00Z") ∷ says (codes "part") (codes "due") ∷ [])) ≡ None
a_deadline_with_three_ends = refl

a_deadline_after_no_period : deadline_of (deadline (says (codes "for") (codes "10S") ∷ [])) ≡ None
a_deadline_after_no_period = refl

a_deadline_at_no_instant : deadline_of (deadline (says (codes "at") (codes "2026-02-30T09:00:00Z") ∷ [])) ≡ None
a_deadline_at_no_instant = refl

a_deadline_of_no_kind : deadline_of (given (says (codes "name") (codes "one") ∷ says (codes "for") (codes "PT10S") ∷ [])) ≡ None
a_deadline_of_no_kind = refl

-- ---- finishes

abbrev set_with : List ℕ → List (List ℕ × Data) → Data
set_with word rows = given (says (codes "part") (codes "out") ∷ says (codes "from") (codes "vote") ∷ says (codes "with") word ∷ rows)

abbrev percent : Data → List (List ℕ × Data)
percent value = (codes "percent", value) ∷ []

abbrev delimiter : List ℕ → List (List ℕ × Data)
delimiter text = says (codes "delimiter") text ∷ []

a_sum : setting_of (set_with (codes "sum") []) ≡ Some (setting (codes "out") (codes "vote") how.Sum)
a_sum = refl

a_sum_with_a_percent : setting_of (set_with (codes "sum") (percent (integer (pos 50)))) ≡ None
a_sum_with_a_percent = refl

a_sum_with_a_delimiter : setting_of (set_with (codes "sum") (delimiter [])) ≡ None
a_sum_with_a_delimiter = refl

a_vote : setting_of (set_with (codes "voteOnString") (percent (integer (pos 100)))) ≡ Some (setting (codes "out") (codes "vote") (how.VoteOnString 100))
a_vote = refl

a_vote_of_nothing : setting_of (set_with (codes "vote") (percent (integer (pos 0)))) ≡ Some (setting (codes "out") (codes "vote") (how.Vote 0))
a_vote_of_nothing = refl

a_vote_without_a_percent : setting_of (set_with (codes "vote") []) ≡ None
a_vote_without_a_percent = refl

a_vote_of_more_than_all : setting_of (set_with (codes "vote") (percent (integer (pos 101)))) ≡ None
a_vote_of_more_than_all = refl

a_vote_of_less_than_nothing : setting_of (set_with (codes "vote") (percent (integer (negsuc 0)))) ≡ None
a_vote_of_less_than_nothing = refl

a_vote_with_a_percent_as_text : setting_of (set_with (codes "vote") (percent (string (codes "50")))) ≡ None
a_vote_with_a_percent_as_text = refl

texts_between : setting_of (set_with (codes "concatWithDelimiter") (delimiter (codes "; "))) ≡ Some (setting (codes "out") (codes "vote") (how.ConcatWithDelimiter (codes "; ")))
texts_between = refl

nothing_between : setting_of (set_with (codes "concatWithDelimiter") (delimiter [])) ≡ Some (setting (codes "out") (codes "vote") (how.ConcatWithDelimiter []))
nothing_between = refl

sixteen_bytes_between : is_some (setting_of (set_with (codes "concatWithDelimiter") (delimiter (codes "0123456789abcdef")))) ≡ true
sixteen_bytes_between = refl

seventeen_bytes_between : setting_of (set_with (codes "concatWithDelimiter") (delimiter (codes "0123456789abcdefg"))) ≡ None
seventeen_bytes_between = refl

no_delimiter : setting_of (set_with (codes "concatWithDelimiter") []) ≡ None
no_delimiter = refl

another_word : setting_of (set_with (codes "first") []) ≡ None
another_word = refl

no_word : setting_of (given (says (codes "part") (codes "out") ∷ says (codes "from") (codes "vote") ∷ [])) ≡ None
no_word = refl

a_default_finish : finish_of (given []) ≡ Some (finish_text None [])
a_default_finish = refl

a_finish : finish_of (given (says (codes "when") (codes "done() > 1") ∷ (codes "set", listed (set_with (codes "min") [] ∷ [])) ∷ [])) ≡ Some (finish_text (Some (codes "done() > 1")) (setting (codes "out") (codes "vote") how.Min ∷ []))
a_finish = refl

a_finish_under_no_text : finish_of (given ((codes "when", boolean true) ∷ [])) ≡ None
a_finish_under_no_text = refl

a_finish_with_one_table : finish_of (given ((codes "set", set_with (codes "min") []) ∷ [])) ≡ None
a_finish_with_one_table = refl

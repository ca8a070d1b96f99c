-- Worked examples of what a table says at its keys. A wrong reading of one fails the check.
use Rattle.std.specs.Prelude.{◌≡◌, refl, ℕ, List, [], ◌∷◌, Some, None, codes, true, false, pos, negsuc}
use Rattle.toml.specs.Data.{Members, array, as_bool, as_str, boolean, integer, item, member, no_items, no_members, string, table}
use Rattle.ht_base.specs.Name.{name_of}
use Rattle.ht_toml.specs.Keys.{◌also◌, exactly_one, keyed, optional, otherwise, required, under}
use Rattle.ht_toml.specs.Values.{KeysAscend, list_of, named, table_of, whole_of, word_of}

-- flag = true, name = "anna"
abbrev sample : Members
sample = member (codes "flag") (boolean true) (member (codes "name") (string (codes "anna")) no_members)

-- ---- values

a_name : named (string (codes "anna")) ≡ Some (codes "anna")
a_name = refl

no_name : named (string (codes "a b")) ≡ None
no_name = refl

abbrev sizes : List (List ℕ × ℕ)
sizes = (codes "small", 1) ∷ (codes "large", 2) ∷ []

a_word : word_of sizes (string (codes "large")) ≡ Some 2
a_word = refl

another_word : word_of sizes (string (codes "larger")) ≡ None
another_word = refl

no_word : word_of sizes (integer (pos 2)) ≡ None
no_word = refl

least_number : whole_of 3 5 (integer (pos 3)) ≡ Some 3
least_number = refl

greatest_number : whole_of 3 5 (integer (pos 5)) ≡ Some 5
greatest_number = refl

lower_number : whole_of 3 5 (integer (pos 2)) ≡ None
lower_number = refl

greater_number : whole_of 3 5 (integer (pos 6)) ≡ None
greater_number = refl

negative_number : whole_of 0 5 (integer (negsuc 0)) ≡ None
negative_number = refl

number_as_text : whole_of 3 5 (string (codes "3")) ≡ None
number_as_text = refl

two_texts : list_of as_str (array (item (string (codes "b")) (item (string (codes "a")) no_items))) ≡ Some (codes "b" ∷ codes "a" ∷ [])
two_texts = refl

a_text_and_a_truth : list_of as_str (array (item (string (codes "b")) (item (boolean true) no_items))) ≡ None
a_text_and_a_truth = refl

no_list : list_of as_str (string (codes "b")) ≡ None
no_list = refl

two_rows : table_of name_of as_bool (table (member (codes "a") (boolean true) (member (codes "b") (boolean false) no_members))) ≡ Some ((codes "a", true) ∷ (codes "b", false) ∷ [])
two_rows = refl

a_row_of_another_key : table_of name_of as_bool (table (member (codes "a b") (boolean true) no_members)) ≡ None
a_row_of_another_key = refl

a_row_of_another_value : table_of name_of as_bool (table (member (codes "a") (string (codes "true")) no_members)) ≡ None
a_row_of_another_value = refl

no_rows : table_of name_of as_bool (array no_items) ≡ None
no_rows = refl

-- ---- keys

a_key_that_is_there : required as_bool (codes "flag") sample ≡ Some true
a_key_that_is_there = refl

a_key_that_is_missing : required as_bool (codes "flags") sample ≡ None
a_key_that_is_missing = refl

a_key_of_another_kind : required as_bool (codes "name") sample ≡ None
a_key_of_another_kind = refl

given_where_it_may_be_missing : optional as_bool (codes "flag") sample ≡ Some (Some true)
given_where_it_may_be_missing = refl

missing_where_it_may_be : optional as_bool (codes "flags") sample ≡ Some None
missing_where_it_may_be = refl

of_another_kind_where_it_may_be_missing : optional as_bool (codes "name") sample ≡ None
of_another_kind_where_it_may_be_missing = refl

given_beside_a_default : otherwise false as_bool (codes "flag") sample ≡ Some true
given_beside_a_default = refl

a_default : otherwise false as_bool (codes "flags") sample ≡ Some false
a_default = refl

of_another_kind_beside_a_default : otherwise false as_bool (codes "name") sample ≡ None
of_another_kind_beside_a_default = refl

-- ---- several keys

abbrev two : ℕ → ℕ → ℕ × ℕ
two a b = (a, b)

both_there : ((Some two also Some 1) also Some 2) ≡ Some (1, 2)
both_there = refl

first_missing : ((Some two also None) also Some 2) ≡ None
first_missing = refl

second_missing : ((Some two also Some 1) also None) ≡ None
second_missing = refl

no_other_key : keyed (codes "name" ∷ codes "flag" ∷ []) (required as_bool (codes "flag")) sample ≡ Some true
no_other_key = refl

another_key : keyed (codes "flag" ∷ []) (required as_bool (codes "flag")) sample ≡ None
another_key = refl

a_rule_that_is_met : under (λ b. b) (Some true) ≡ Some true
a_rule_that_is_met = refl

a_rule_that_is_broken : under (λ b. b) (Some false) ≡ None
a_rule_that_is_broken = refl

one_of_three : exactly_one (false ∷ false ∷ true ∷ []) ≡ true
one_of_three = refl

none_of_three : exactly_one (false ∷ false ∷ false ∷ []) ≡ false
none_of_three = refl

two_of_three : exactly_one (true ∷ false ∷ true ∷ []) ≡ false
two_of_three = refl

keys_that_ascend : KeysAscend {B = ℕ} (λ k. k) ((codes "a", 2) ∷ (codes "b", 1) ∷ [])
keys_that_ascend = (refl, tt)

the_same_key_twice : KeysAscend {B = ℕ} (λ k. k) ((codes "a", 1) ∷ (codes "a", 2) ∷ []) → ⊥
the_same_key_twice ascend = let before = ascend.0 in cc

-- Worked examples of what a document says. A wrong reading of one fails the check.
use Rattle.std.specs.Prelude.{◌≡◌, ℕ, refl, List, [], ◌∷◌, length, Some, codes, true, false, nat_eq}
use Rattle.std.proofs.Common.{ap, inr, lit<, true≢false}
use Rattle.std.proofs.lemmas.Bool.{false≢true}
use Rattle.toml.specs.Data.{Data, Members, Items, array, boolean, item, member, no_items, no_members, string, table}
use Rattle.ht_base.specs.declared.how.How.TheVariants as how
use Rattle.ht_base.specs.declared.kind.Kind.TheVariants.{Int, Text}
use Rattle.ht_base.specs.Places.{IsRepeated}
use Rattle.ht_base.specs.Values.{Ascend}
use Rattle.ht_models.specs.BuiltIn.{built_in_text, plain_model}
use Rattle.ht_models.specs.DeclaredParts.{HaveOwnNames}
use Rattle.ht_models.specs.EntryExamples.{bare}
use Rattle.ht_entries.specs.Finishes.{setting}
use Rattle.ht_models.specs.Kinded.{IsSettable, parts_of}
use Rattle.ht_models.specs.MappedInputs.{IsMappedPair}
use Rattle.ht_models.specs.Model.{ModelOf}
use Rattle.ht_models.specs.ModelsText.{is_top, IsMisshapen, models_text}
use Rattle.ht_entries.specs.Parts.{part}
use Rattle.ht_entries.specs.SubEntries.{SubEntry, sub_entry}
use Rattle.ht_models.specs.SubTrees.{names_of}
use Rattle.ht_models.specs.TreeSizes.{IsSized, entries_size, entry_size}

-- ---- the document

abbrev models : Items → Members
models values = member (codes "model") (array values) no_members

abbrev plain : List ℕ → Data
plain name = table (member (codes "name") (string name) no_members)

two_models : models_text (models (item (plain (codes "b")) (item (plain (codes "a")) no_items))) ≡ Some (bare (codes "b") ∷ bare (codes "a") ∷ [])
two_models = refl

no_models : is_top (models no_items) ≡ false
no_models = refl

nothing : is_top no_members ≡ false
nothing = refl

one_table : is_top (member (codes "model") (plain (codes "a")) no_members) ≡ false
one_table = refl

another_key : is_top (member (codes "calendar") (array no_items) (models (item (plain (codes "a")) no_items))) ≡ false
another_key = refl

second_misshapen : IsMisshapen (models (item (plain (codes "a")) (item (boolean true) no_items))) 1
second_misshapen = inr (boolean true, refl, refl)

-- ---- names that stand twice

third_repeated : IsRepeated (names_of (bare (codes "a") ∷ bare (codes "b") ∷ bare (codes "a") ∷ [])) 2
third_repeated = (0, lit< tt, codes "a", refl, refl)

-- ---- trees of models

-- a sub entry of this model
abbrev entry : List ℕ → SubEntry
entry model = sub_entry (codes "x") model []

-- a, of two b and a c, of which each b has two c
abbrev tree : List ModelOf
tree =
    record (plain_model (codes "a")) { subs = entry (codes "b") ∷ entry (codes "b") ∷ entry (codes "c") ∷ []; size = 8 }
    ∷ record (plain_model (codes "b")) { subs = entry (codes "c") ∷ entry (codes "c") ∷ []; size = 3 }
    ∷ plain_model (codes "c") ∷ []

each_entry_counts : entries_size tree (entry (codes "b") ∷ entry (codes "b") ∷ entry (codes "c") ∷ []) ≡ 7
each_entry_counts = refl

no_model_of_this_name : entry_size tree (entry (codes "d")) ≡ 0
no_model_of_this_name = refl

-- a model of one b, which alone has three tasks
a_task_too_few : IsSized tree (record (plain_model (codes "d")) { subs = entry (codes "b") ∷ []; size = 3 }) → ⊥
a_task_too_few sized = true≢false (ap (λ n. nat_eq n 3) sized.counted)

an_entry_of_no_model : IsSized tree (record (plain_model (codes "d")) { subs = entry (codes "e") ∷ []; size = 1 }) → ⊥
an_entry_of_no_model sized = false≢true (sized.known 0 (entry (codes "e")) refl)

-- ---- parts of models

abbrev whole : ModelOf
whole = record (plain_model (codes "whole")) {
  input = part (codes "t") Text false ∷ part (codes "n") Int false ∷ [];
  output = part (codes "o") Text true ∷ part (codes "s") Int true ∷ [];
}

abbrev child : ModelOf
child = record (plain_model (codes "child")) { input = part (codes "p") Text false ∷ [] }

mapped_of_one_kind : IsMappedPair child whole (codes "p", codes "t")
mapped_of_one_kind = record { declared = refl; same = refl }

mapped_of_two_kinds : IsMappedPair child whole (codes "p", codes "n") → ⊥
mapped_of_two_kinds pair = let same = pair.same in cc

mapped_from_an_output : IsMappedPair child whole (codes "p", codes "o") → ⊥
mapped_from_an_output pair = let same = pair.same in cc

-- though neither is there
mapped_of_no_parts : IsMappedPair child whole (codes "q", codes "u") → ⊥
mapped_of_no_parts pair = false≢true pair.declared

pairs_in_order : Ascend ((codes "p", codes "t") ∷ (codes "q", codes "n") ∷ [])
pairs_in_order = (refl, tt)

pairs_out_of_order : Ascend ((codes "q", codes "n") ∷ (codes "p", codes "t") ∷ []) → ⊥
pairs_out_of_order ascend = false≢true ascend.0

a_pair_twice : Ascend ((codes "p", codes "t") ∷ (codes "p", codes "n") ∷ []) → ⊥
a_pair_twice ascend = false≢true ascend.0

a_sum_of_numbers : IsSettable (parts_of whole.input whole.output) (setting (codes "s") (codes "x") how.Sum)
a_sum_of_numbers = refl

a_sum_is_no_text : IsSettable (parts_of whole.input whole.output) (setting (codes "o") (codes "x") how.Sum) → ⊥
a_sum_is_no_text sets = cc

an_input_is_not_set : IsSettable (parts_of whole.input whole.output) (setting (codes "n") (codes "x") how.Sum) → ⊥
an_input_is_not_set sets = cc

two_parts_of_one_name : HaveOwnNames (part (codes "a") Text false ∷ part (codes "a") Int false ∷ []) → ⊥
two_parts_of_one_name own = own 1 (0, lit< tt, codes "a", refl, refl)

-- ---- the built-in text

built_in_length : length built_in_text ≡ 54
built_in_length = refl

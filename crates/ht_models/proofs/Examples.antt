-- Worked examples of whole texts. A wrong reading of one fails the check.
use Rattle.std.proofs.Common.{◌≡◌, ◌∙◌, ◌≤◌, zero, suc, Err, Ok, lit<, arith, List, ℕ, [], ◌∷◌, Some, ap, codes, inl, inr, refl, sym, true≢false}
use Rattle.std.specs.Str.{IsUtf8}
use lib.Utf8.{encode}
use Rattle.toml.specs.Parse.{parse_document}
use Rattle.toml.proofs.OnLiterals.{toml_on_literals}
use Rattle.toml.specs.Data.{Members, array, item, member, no_items, no_members, string, table}
use Rattle.ht_base.specs.Places.{IsLeast}
use Rattle.ht_expr.specs.Assignments.{user}
use Rattle.ht_expr.specs.Trees.{an_assignment}
use Rattle.ht_expr.proofs.PublicLaws.{spelled_row, tree_row}
use Rattle.ht_models.specs.declared.refusal.ModelsRefusal.TheVariants.{Field, Twice}
use Rattle.ht_models.specs.Model.{ModelOf}
use Rattle.ht_models.specs.BuiltIn.{plain_model}
use Rattle.ht_models.specs.EntryExamples.{bare}
use Rattle.ht_entries.specs.ModelEntries.{ModelEntry}
use Rattle.ht_models.specs.ModelsText.{IsModelsText}
use Rattle.ht_models.specs.Reading.{IsModel, Reads}
use Rattle.ht_models.specs.Refusals.{IsTwice}
use Rattle.ht_models.specs.Repeats.{repeats_name}
use Rattle.ht_models.proofs.Shapes.{least_top}
use Rattle.ht_models.proofs.Passing.{field_told, models_told}
use Rattle.ht_models.proofs.SingleModels.{reads_one}

-- a model from which its only potential owner is excluded
abbrev shut_text : List ℕ
shut_text = codes "[[model]]\nname = \"shut\"\npotentialOwners = \"user('anna')\"\nexcludedOwners = \"user('anna')\"\nadministrators = \"user('cora')\"\n"

abbrev shut : ModelOf
shut = record (plain_model (codes "shut")) {
  potential_owners = user (codes "anna");
  excluded_owners = user (codes "anna");
  administrators = Some (user (codes "cora"));
}

abbrev shut_document : Members
shut_document =
    member (codes "model")
    (array (item (table
    (member (codes "administrators") (string (codes "user('cora')"))
    (member (codes "excludedOwners") (string (codes "user('anna')"))
    (member (codes "name") (string (codes "shut"))
    (member (codes "potentialOwners") (string (codes "user('anna')")) no_members))))) no_items))
    no_members

abbrev shut_entry : ModelEntry
shut_entry = record (bare (codes "shut")) {
  potential_owners = Some (codes "user('anna')");
  excluded_owners = Some (codes "user('anna')");
  administrators = Some (codes "user('cora')");
}

shut_is_read : parse_document shut_text ≡ Some shut_document
unfolding toml_on_literals
shut_is_read = refl

shut_is_text : IsUtf8 shut_text
unfolding encode
shut_is_text = (shut_text, (refl, refl))

shut_shape : IsModelsText shut_text (shut_entry ∷ [])
shut_shape = (shut_document, (shut_is_text, shut_is_read), refl)

shut_model : IsModel shut_entry shut
shut_model = record {
  name = refl;
  priority = refl;
  skipable = refl;
  owner_required = refl;
  delegation = refl;
  delegatees = refl;
  potential_owners = (tree_row [] an_assignment (codes "user('anna')") (user (codes "anna")) (spelled_row an_assignment (codes "user('anna')") (user (codes "anna")) (omega arith, omega arith, tt) refl refl refl refl) refl).reads;
  excluded_owners = (tree_row [] an_assignment (codes "user('anna')") (user (codes "anna")) (spelled_row an_assignment (codes "user('anna')") (user (codes "anna")) (omega arith, omega arith, tt) refl refl refl refl) refl).reads;
  administrators = (tree_row [] an_assignment (codes "user('cora')") (user (codes "cora")) (spelled_row an_assignment (codes "user('cora')") (user (codes "cora")) (omega arith, omega arith, tt) refl refl refl refl) refl).reads;
  stakeholders = refl;
  composition = refl;
  instantiation = refl;
  completion = refl;
  input = refl;
  output = refl;
  subs = refl;
  deadlines = tt;
  finishes = tt;
}

shut_reads : Reads shut_text (Ok (shut ∷ []))
shut_reads = reads_one shut_text shut_entry shut shut_shape (record { model = shut_model; names = refl; known = refl; alone = refl; few = refl; low = refl; size = refl; fits = refl })

-- the empty document has no models
nothing_is_text : IsUtf8 []
nothing_is_text = ([], (refl, refl))

nothing_is_read : parse_document [] ≡ Some no_members
unfolding toml_on_literals
nothing_is_read = refl

nothing_is_refused : Reads [] (Err (Field 0))
nothing_is_refused = field_told [] no_members (nothing_is_text, nothing_is_read) (Field 0) (λ _. (0, refl, least_top no_members refl))

-- the second of two models of one name is told
abbrev two_text : List ℕ
two_text = codes "model = [{name = 'a'}, {name = 'a'}]"

abbrev plain : ModelEntry
plain = bare (codes "a")

abbrev two_document : Members
two_document =
    let model = table (member (codes "name") (string (codes "a")) no_members) in
    member (codes "model") (array (item model (item model no_items))) no_members

two_is_read : parse_document two_text ≡ Some two_document
unfolding toml_on_literals
two_is_read = refl

two_is_text : IsUtf8 two_text
unfolding encode
two_is_text = (two_text, (refl, refl))

two_repeated : IsLeast (IsTwice (plain ∷ plain ∷ [])) 1
two_repeated = record { holds = inl (0, lit< tt, codes "a", refl, refl); least = least }
  where
    least : (place : ℕ) → IsTwice (plain ∷ plain ∷ []) place → 1 ≤ place
    least zero (inl (j, before, name, first, second)) = omega arith
    least zero (inr (m, at, repeats)) = let same : plain ≡ m = cc in absurd (true≢false (sym repeats ∙ ap repeats_name (sym same)))
    least (suc place) twice = omega arith

two_are_refused : Reads two_text (Err (Twice 1))
two_are_refused = models_told two_text two_document (two_is_text, two_is_read) (plain ∷ plain ∷ []) refl (Err (Twice 1)) (λ _. inl (1, refl, two_repeated))

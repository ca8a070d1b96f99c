-- What the built-in text reads to.
use Rattle.std.proofs.Common.{arith, ◌≡◌, ◌≢◌, ◌⊎◌, inl, inr, Result, Ok, Err, List, [], ◌∷◌, Some, codes, refl}
use Rattle.std.specs.Str.{IsUtf8}
use lib.Utf8.{encode}
use Rattle.toml.specs.Data.{Members, array, item, member, no_items, no_members, string, table}
use Rattle.toml.specs.Parse.{parse_document}
use Rattle.toml.proofs.OnLiterals.{toml_on_literals}
use Rattle.ht_expr.specs.Assignments.{everybody}
use Rattle.ht_expr.specs.Trees.{an_assignment}
use Rattle.ht_expr.proofs.PublicLaws.{spelled_row, tree_row}
use Rattle.ht_models.specs.declared.refusal.ModelsRefusal.{ModelsRefusal}
use Rattle.ht_models.specs.declared.refusal.ModelsRefusal.TheVariants.{Syntax, Field, Twice, UnknownModel, Cycle, Expression, Limit, Contradiction, Memory}
use Rattle.ht_models.specs.Model.{ModelOf}
use Rattle.ht_models.specs.BuiltIn.{built_in_text, unit}
use Rattle.ht_models.specs.EntryExamples.{bare}
use Rattle.ht_entries.specs.ModelEntries.{ModelEntry}
use Rattle.ht_models.specs.ModelsText.{IsModelsText}
use Rattle.ht_models.specs.Reading.{IsModel, Reads}
use Rattle.ht_models.proofs.Passing.{one_answer}
use Rattle.ht_models.proofs.SingleModels.{reads_one}

abbrev document : Members
document =
    member (codes "model")
    (array (item (table (member (codes "name") (string (codes "unit")) (member (codes "potentialOwners") (string (codes "everybody")) no_members))) no_items))
    no_members

abbrev entry : ModelEntry
entry = record (bare (codes "unit")) { potential_owners = Some (codes "everybody") }

is_read : parse_document built_in_text ≡ Some document
unfolding toml_on_literals
is_read = refl

is_text : IsUtf8 built_in_text
unfolding encode
is_text = (built_in_text, (refl, refl))

shape : IsModelsText built_in_text (entry ∷ [])
shape = (document, (is_text, is_read), refl)

-- everybody is one word
model : IsModel entry unit
model = record {
  name = refl;
  priority = refl;
  skipable = refl;
  owner_required = refl;
  delegation = refl;
  delegatees = refl;
  potential_owners = (tree_row [] an_assignment (codes "everybody") everybody (spelled_row an_assignment (codes "everybody") everybody (omega arith, omega arith, tt) refl refl refl refl) refl).reads;
  excluded_owners = refl;
  administrators = refl;
  stakeholders = refl;
  composition = refl;
  instantiation = refl;
  completion = refl;
  input = refl;
  output = refl;
  subs = refl;
  deadlines = tt;
  finishes = tt;
}

pub built_in : Reads built_in_text (Ok (unit ∷ []))
built_in = reads_one built_in_text entry unit shape (record { model = model; names = refl; known = refl; alone = refl; few = refl; low = refl; size = refl; fits = refl })

-- an answer is want of memory, or it is this one
is_memory : (answer : Result (List ModelOf) ModelsRefusal) → (answer ≡ Err Memory) ⊎ (answer ≢ Err Memory)
is_memory (Ok models) = inr (λ h. cc)
is_memory (Err Memory) = inl refl
is_memory (Err Syntax) = inr (λ h. cc)
is_memory (Err (Field p)) = inr (λ h. cc)
is_memory (Err (Twice p)) = inr (λ h. cc)
is_memory (Err (UnknownModel p)) = inr (λ h. cc)
is_memory (Err (Cycle p)) = inr (λ h. cc)
is_memory (Err (Expression p)) = inr (λ h. cc)
is_memory (Err (Limit p)) = inr (λ h. cc)
is_memory (Err (Contradiction p)) = inr (λ h. cc)

pub built_in_answered : (answer : Result (List ModelOf) ModelsRefusal) → Reads built_in_text answer → (answer ≡ Err Memory) ⊎ (answer ≡ Ok (unit ∷ []))
built_in_answered answer reads = elim (is_memory answer) [ inl is ↦ inl is | inr some ↦ inr (one_answer built_in_text answer (Ok (unit ∷ [])) reads built_in some (λ h. cc)) ]

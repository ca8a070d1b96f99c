-- What is wrong with a models text: its refusals in their order, and where each holds.
use Rattle.std.specs.Prelude.{◌≡◌, ◌⊎◌, ℕ, ◌<◌, true, List, [], ◌∷◌, length, Some, slice_get}
use Rattle.ht_base.specs.Places.{IsRepeated}
use Rattle.ht_base.specs.declared.limits.TheConstants.{MOST_MODELS}
use Rattle.ht_graph.specs.Graphs.{IsInCycle}
use Rattle.ht_toml.specs.Documents.{IsDocument}
use Rattle.ht_toml.specs.Refusals.{About, IsNone, Of, Refusal, about, each_of_text, refused}
use Rattle.ht_models.specs.declared.refusal.ModelsRefusal.{ModelsRefusal}
use Rattle.ht_models.specs.declared.refusal.ModelsRefusal.TheVariants.{Syntax, Field, Twice, UnknownModel, Cycle, Expression, Limit, Contradiction}
use Rattle.ht_models.specs.Contradictions.{is_contradicted}
use Rattle.ht_models.specs.Expressions.{HasRefused}
use Rattle.ht_models.specs.Limits.{has_too_large_tree, holds_too_much}
use Rattle.ht_entries.specs.ModelEntries.{ModelEntry}
use Rattle.ht_models.specs.ModelsText.{IsMisshapen, IsModelsText}
use Rattle.ht_models.specs.Repeats.{repeats_name}
use Rattle.ht_models.specs.SubTrees.{names_of, names_unknown_model, subs_at}

-- ---- where each holds

-- the model at this place is one of these
abbrev pub IsOne : (ModelEntry → Type 0) → List ModelEntry → ℕ → Type 0
IsOne P t place = (m : ModelEntry) × (slice_get t place ≡ Some m) × P m

-- its name stood before, or names stand twice in it
abbrev pub IsTwice : List ModelEntry → ℕ → Type 0
IsTwice t place = IsRepeated (names_of t) place ⊎ IsOne (λ m. repeats_name m ≡ true) t place

abbrev pub NamesUnknownModel : List ModelEntry → ℕ → Type 0
NamesUnknownModel t place = IsOne (λ m. names_unknown_model t m ≡ true) t place

-- it reaches itself by sub entries
abbrev pub ReachesItself : List ModelEntry → ℕ → Type 0
ReachesItself t place = IsInCycle (subs_at t) place

abbrev pub IsUnreadable : List ModelEntry → ℕ → Type 0
IsUnreadable t place = IsOne HasRefused t place

-- there are too many models, which has no place of a model; or it holds too much itself or by its tree
abbrev pub IsTooMuch : List ModelEntry → ℕ → Type 0
IsTooMuch t place =
    ((MOST_MODELS < length t) × (place ≡ 0))
    ⊎ IsOne (λ m. holds_too_much m ≡ true) t place
    ⊎ ((place < length t) × (has_too_large_tree t place ≡ true))

abbrev pub IsContradicted : List ModelEntry → ℕ → Type 0
IsContradicted t place = IsOne (λ m. is_contradicted t m ≡ true) t place

-- ---- their order

-- of the models that a text says
abbrev pub model_refusals : List (About (List ModelEntry) ModelsRefusal)
model_refusals =
    about Twice IsTwice
    ∷ about UnknownModel NamesUnknownModel
    ∷ about Cycle ReachesItself
    ∷ about Expression IsUnreadable
    ∷ about Limit IsTooMuch
    ∷ about Contradiction IsContradicted
    ∷ []

abbrev pub refusals : List ℕ → List (Refusal ModelsRefusal)
refusals text =
    refused (λ _. Syntax) (IsNone (IsDocument text))
    ∷ refused Field (Of (IsDocument text) IsMisshapen)
    ∷ each_of_text (IsModelsText text) model_refusals

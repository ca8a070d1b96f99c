-- A text of one model that has no sub entries, and what it reads to.
use Rattle.std.proofs.Common.{◌≡◌, ◌∙◌, ℕ, zero, suc, Bool, true, false, true≢false, List, [], ◌∷◌, Some, Ok, ap, sym, arith, inl, inr}
use Rattle.std.specs.Prelude.{slice_get}
use Rattle.std.specs.List.{list_any}
use Rattle.ht_base.specs.Places.{IsRepeated}
use Rattle.ht_graph.specs.Graphs.{leads}
use Rattle.ht_models.specs.Contradictions.{is_contradicted}
use Rattle.ht_models.specs.Limits.{has_too_large_tree, holds_too_much}
use Rattle.ht_models.specs.Model.{ModelOf}
use Rattle.ht_entries.specs.ModelEntries.{ModelEntry}
use Rattle.ht_models.specs.ModelsText.{IsModelsText}
use Rattle.ht_models.specs.Reading.{IsModel, Reads}
use Rattle.ht_models.specs.Refusals.{IsOne, IsTooMuch, IsTwice, ReachesItself}
use Rattle.ht_models.specs.Repeats.{repeats_name}
use Rattle.ht_models.specs.SubTrees.{names_of, names_unknown_model, size_of, subs_at}
use Rattle.ht_models.proofs.ModelLists.{none_unreadable}
use Rattle.ht_models.proofs.Passing.{all_read, models_told}

only : (test : ModelEntry → Bool) (m : ModelEntry) → test m ≡ false → (place : ℕ) → IsOne (λ m. test m ≡ true) (m ∷ []) place → ⊥
only test m fails zero (n, at, holds) = let same : m ≡ n = cc in true≢false (sym holds ∙ ap test (sym same) ∙ fails)
only test m fails (suc place) (n, at, holds) = cc

alone : (m : ModelEntry) (place : ℕ) → IsRepeated (names_of (m ∷ [])) place → ⊥
alone m zero (j, before, name, first, second) = omega arith
alone m (suc place) (j, before, name, first, second) = cc

once : (m : ModelEntry) → repeats_name m ≡ false → (place : ℕ) → IsTwice (m ∷ []) place → ⊥
once m fails place (inl repeated) = alone m place repeated
once m fails place (inr inside) = only repeats_name m fails place inside

-- no chain leads anywhere
nowhere : (m : ModelEntry) → subs_at (m ∷ []) 0 ≡ [] → (place : ℕ) → ReachesItself (m ∷ []) place → ⊥
nowhere m none zero (n, leads_back) =
    let empty : list_any (λ p. leads (subs_at (m ∷ [])) n p 0) (subs_at (m ∷ []) 0) ≡ false = ap (list_any (λ p. leads (subs_at (m ∷ [])) n p 0)) none in
    true≢false (sym leads_back ∙ empty)
nowhere m none (suc place) (n, leads_back) = true≢false (sym leads_back)

small : (m : ModelEntry) → holds_too_much m ≡ false → has_too_large_tree (m ∷ []) 0 ≡ false → (place : ℕ) → IsTooMuch (m ∷ []) place → ⊥
small m few low place (inl many) = let more = many.0 in omega arith
small m few low place (inr (inl held)) = only holds_too_much m few place held
small m few low zero (inr (inr tree)) = true≢false (sym tree.1 ∙ low)
small m few low (suc place) (inr (inr tree)) = let within = tree.0 in omega arith

sized : (m : ModelEntry) (x : ModelOf) → x.size ≡ size_of (m ∷ []) 0 → (place : ℕ) (y : ModelOf) → slice_get (x ∷ []) place ≡ Some y → y.size ≡ size_of (m ∷ []) place
sized m x size zero y at = let same : x ≡ y = cc in ap (λ (z : ModelOf). z.size) (sym same) ∙ size
sized m x size (suc place) y at = cc

pub record IsSingle (m : ModelEntry) (x : ModelOf) : Type 0 where
  pub model : IsModel m x
  pub names : repeats_name m ≡ false
  pub known : names_unknown_model (m ∷ []) m ≡ false
  pub alone : subs_at (m ∷ []) 0 ≡ []
  pub few : holds_too_much m ≡ false
  pub low : has_too_large_tree (m ∷ []) 0 ≡ false
  pub size : x.size ≡ size_of (m ∷ []) 0
  pub fits : is_contradicted (m ∷ []) m ≡ false

pub reads_one : (text : List ℕ) (m : ModelEntry) (x : ModelOf) → IsModelsText text (m ∷ []) → IsSingle m x → Reads text (Ok (x ∷ []))
reads_one text m x shape is =
    models_told text shape.0 shape.1 (m ∷ []) shape.2 (Ok (x ∷ []))
    (all_read (m ∷ [])
    (once m is.names)
    (only (names_unknown_model (m ∷ [])) m is.known)
    (nowhere m is.alone)
    (λ place. none_unreadable (m ∷ []) (x ∷ []) place (is.model, tt))
    (small m is.few is.low)
    (only (is_contradicted (m ∷ [])) m is.fits)
    (x ∷ []) (record { each = (is.model, tt); sizes = sized m x is.size }))

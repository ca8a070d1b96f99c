-- Where a model is too much.
use Rattle.std.proofs.Common.{◌≡◌, ◌∙◌, ◌≤◌, ℕ, false, List, Some, ap, arith, inl, inr, length, slice_get, sym, true≢false}
use Rattle.std.proofs.lemmas.Option.{slice_get_within}
use Rattle.ht_base.specs.declared.limits.TheConstants.{MOST_MODELS}
use Rattle.ht_models.specs.Limits.{has_too_large_tree, holds_too_much}
use Rattle.ht_entries.specs.ModelEntries.{ModelEntry}
use Rattle.ht_models.specs.Refusals.{IsTooMuch}

pub none_past : (t : List ModelEntry) (place : ℕ) → length t ≤ place → length t ≤ MOST_MODELS → IsTooMuch t place → ⊥
none_past t place past few (inl many) = let h = many.0 in omega arith
none_past t place past few (inr (inl held)) = let low = slice_get_within t place held.0 held.1 in omega arith
none_past t place past few (inr (inr tree)) = let low = tree.0 in omega arith

pub not_too_much : (t : List ModelEntry) (place : ℕ) (m : ModelEntry) → slice_get t place ≡ Some m → length t ≤ MOST_MODELS → holds_too_much m ≡ false → has_too_large_tree t place ≡ false → IsTooMuch t place → ⊥
not_too_much t place m at few light small (inl many) = let h = many.0 in omega arith
not_too_much t place m at few light small (inr (inl held)) =
    let one : held.0 ≡ m = let there = held.1 in cc in
    true≢false (sym held.2 ∙ ap holds_too_much one ∙ light)
not_too_much t place m at few light small (inr (inr tree)) = true≢false (sym tree.1 ∙ small)

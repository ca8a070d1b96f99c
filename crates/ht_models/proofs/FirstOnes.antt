-- The first model that a test finds, as a loop over the models looks for it.
use Rattle.std.proofs.Common.{◌≡◌, ◌∙◌, ◌+◌, ◌<◌, ◌≤◌, ℕ, Bool, true, false, List, Some, ap, arith, below_more, get_or, length, refl, sym}
use Rattle.std.specs.Prelude.{slice_get}
use Rattle.std.proofs.lemmas.Bool.{both_ways}
use Rattle.std.proofs.lemmas.Option.{slice_get_read, slice_get_within}
use Rattle.ht_base.proofs.PublicLaws.{least_here}
use Rattle.ht_base.specs.Places.{IsLeast}
use Rattle.ht_entries.specs.ModelEntries.{ModelEntry}
use Rattle.ht_models.specs.Refusals.{IsOne}

module _ (test : ModelEntry → Bool) (t : List ModelEntry) where
  abbrev pub IsFound : ℕ → Type 0
  IsFound = IsOne (λ m. test m ≡ true) t

  -- at none of so many places
  abbrev pub NoneBefore : ℕ → Type 0
  NoneBefore i = (j : ℕ) → j < i → IsFound j → ⊥

  pub found_within : (i : ℕ) → IsFound i → i < length t
  found_within i found = slice_get_within t i found.0 found.1

  -- ---- at the place of a turn of the loop

  module _ (i : ℕ) (m : ModelEntry) (low : i < length t) (is : m ≡ get_or t i m) where
    there : slice_get t i ≡ Some m
    there = slice_get_read t (length t) i m refl low is

    pub found_here : test m ≡ true → IsFound i
    found_here holds = (m, there, holds)

    pub not_here : test m ≡ false → IsFound i → ⊥
    not_here fails found =
        let same : found.0 ≡ m = let other = found.1 in let own = there in cc in
        both_ways (test m) fails (sym (ap test same) ∙ found.2)

    pub first_one : test m ≡ true → NoneBefore i → IsLeast IsFound i
    first_one holds before = least_here IsFound i (found_here holds) before

    pub none_more : test m ≡ false → NoneBefore i → NoneBefore (i + 1)
    none_more fails before = below_more _ _ before (not_here fails)

  -- ---- behind the loop

  pub none_found : (i : ℕ) → length t ≤ i → NoneBefore i → (j : ℕ) → IsFound j → ⊥
  none_found i past before j found = before j (let within = found_within j found in omega arith) found

-- How a walk meets places.
use Rattle.std.specs.Prelude.{◌≡◌, ◌⊎◌, ℕ, ◌+◌, Bool, true, false, List, [], ◌∷◌, ◌||◌, slice_index_or, if◌then◌else◌}
use Rattle.ht_base.specs.Persons.{has}

-- how many places were not met yet
abbrev pub unmet : List Bool → ℕ
unmet [] = 0
unmet (m ∷ met) = (if m then 0 else 1) + unmet met

-- these places are met now beside those that were, and what is newly met is left to go on from
pub record Meets (places : List ℕ) (old new : List Bool) (before after : List ℕ) : Type 0 where
  pub met : (place : ℕ) → slice_index_or new place false ≡ (slice_index_or old place false || has place places)
  pub open_still : (place : ℕ) → has place before ≡ true → has place after ≡ true
  pub newly : (place : ℕ) → slice_index_or new place false ≡ true → slice_index_or old place false ≡ false → has place after ≡ true
  pub from_these : (place : ℕ) → has place after ≡ true → (has place before ≡ true) ⊎ (slice_index_or new place false ≡ true)

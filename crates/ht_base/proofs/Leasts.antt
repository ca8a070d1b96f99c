-- The least place at which something holds.
use Rattle.std.proofs.Common.{◌⊎◌, ◌+◌, ◌<◌, ℕ, arith, inl, inr, refl}
use Rattle.std.proofs.lemmas.Bool.{cases_lt}
use Rattle.ht_base.specs.Places.{Behind, IsLeast}

-- as a loop finds it
pub least_here : (P : ℕ → Type 0) (i : ℕ) → P i → ((j : ℕ) → j < i → P j → ⊥) → IsLeast P i
least_here P i here before = record { holds = here; least = λ j p. elim (cases_lt j i) [ inl h ↦ absurd (before j h p) | inr h ↦ h ] }

-- ---- in two lists, one behind the other

module _ (count : ℕ) (P Q : ℕ → Type 0) where
  pub least_in_front : (i : ℕ) → i < count → IsLeast P i → IsLeast (λ p. P p ⊎ Behind count Q p) i
  least_in_front i low first = record {
    holds = inl first.holds;
    least = λ j h. elim h [ inl p ↦ first.least j p | inr q ↦ let at = q.1 in omega arith ];
  }

  pub least_behind : (i : ℕ) → ((j : ℕ) → P j → ⊥) → IsLeast Q i → IsLeast (λ p. P p ⊎ Behind count Q p) (count + i)
  least_behind i none first = record {
    holds = inr (i, refl, first.holds);
    least = λ j h. elim h [ inl p ↦ absurd (none j p) | inr q ↦ let low = first.least q.0 q.2 in let at = q.1 in omega arith ];
  }

  pub neither : ((j : ℕ) → P j → ⊥) → ((j : ℕ) → Q j → ⊥) → (j : ℕ) → P j ⊎ Behind count Q j → ⊥
  neither first second j h = elim h [ inl p ↦ first j p | inr q ↦ second q.0 q.2 ]

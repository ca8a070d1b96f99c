-- The least place at which one of two things holds.
use Rattle.std.proofs.Common.{◌≡◌, ◌⊎◌, ℕ, arith, inl, inr, min, subst, sym}
use Rattle.std.proofs.lemmas.Bool.{cases_lt}
use Rattle.ht_base.specs.Places.{IsLeast}

module _ (P Q : ℕ → Type 0) where
  abbrev pub Either : ℕ → Type 0
  Either i = P i ⊎ Q i

  pub neither : ((j : ℕ) → P j → ⊥) → ((j : ℕ) → Q j → ⊥) → (j : ℕ) → Either j → ⊥
  neither first second j h = elim h [ inl p ↦ first j p | inr q ↦ second j q ]

  pub only_first : (i : ℕ) → IsLeast P i → ((j : ℕ) → Q j → ⊥) → IsLeast Either i
  only_first i first none = record { holds = inl first.holds; least = λ j h. elim h [ inl p ↦ first.least j p | inr q ↦ absurd (none j q) ] }

  pub only_second : (i : ℕ) → ((j : ℕ) → P j → ⊥) → IsLeast Q i → IsLeast Either i
  only_second i none second = record { holds = inr second.holds; least = λ j h. elim h [ inl p ↦ absurd (none j p) | inr q ↦ second.least j q ] }

  pub either : (i j : ℕ) → IsLeast P i → IsLeast Q j → IsLeast Either (min i j)
  either i j first second = record {
    holds = elim (cases_lt i j) [
      | inl low ↦ let is : min i j ≡ i = omega arith in subst Either (sym is) (inl first.holds)
      | inr low ↦ let is : min i j ≡ j = omega arith in subst Either (sym is) (inr second.holds)
    ];
    least = λ k h. elim h [
      | inl p ↦ let low = first.least k p in omega arith
      | inr q ↦ let low = second.least k q in omega arith
    ];
  }

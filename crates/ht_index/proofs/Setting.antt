-- Bits of words, as one is set or cleared and as there come to be more words.
use Rattle.std.proofs.Common.{◌≡◌, ℕ, ◌*◌, ◌/◌, ◌%◌, ◌^◌, ◌<◌, ◌≤◌, ◌==◌, ◌&&◌, ◌||◌, not, false, List, length, set, get_or, get_or-set_same, get_or-set_other, sym, ap, ◌∙◌, inl, inr, arith, eq-eqb, w64}
use Rattle.std.specs.Prelude.{bit_and, bit_or}
use Rattle.std.specs.Int.{bit_at, bit_not}
use Rattle.std.proofs.lemmas.Bool.{cases_eq}
use Rattle.std.proofs.lemmas.List.{get_or_past}
use Rattle.std.proofs.lemmas.Nat.Bits.{bit_at-zero, bit_at_set_same, bit_at_set_other, bit_at_clear_same, bit_at_clear_other}
use Rattle.ht_index.specs.Sets.{is_set}
use Rattle.ht_index.proofs.Places.{apart}

pub none_set_behind : (n : ℕ) (words : List ℕ) → 64 * length words ≤ n → is_set n words ≡ false
none_set_behind n words high = ap (λ w. bit_at w (n % 64) == 1) (get_or_past words (n / 64) 0 (omega arith)) ∙ ap (λ b. b == 1) (bit_at-zero (n % 64))

-- another word stays
module _ (words : List ℕ) (p word : ℕ) where
  elsewhere : (k : ℕ) → (k / 64 ≡ p → ⊥) → is_set k (set words p word) ≡ is_set k words
  elsewhere k other = ap (λ w. bit_at w (k % 64) == 1) (get_or-set_other words p (k / 64) word 0 other)

  there : (k : ℕ) → p < length words → k / 64 ≡ p → is_set k (set words p word) ≡ (bit_at word (k % 64) == 1)
  there k low e = ap (λ q. bit_at (get_or (set words p word) q 0) (k % 64) == 1) e ∙ ap (λ w. bit_at w (k % 64) == 1) (get_or-set_same words p word 0 low)

module _ (words : List ℕ) (n word : ℕ) (low : n / 64 < length words) (read : word ≡ get_or words (n / 64) 0) where
  was : (k : ℕ) → k / 64 ≡ n / 64 → (bit_at word (k % 64) == 1) ≡ is_set k words
  was k e = ap (λ w. bit_at w (k % 64) == 1) (read ∙ ap (λ q. get_or words q 0) (sym e))

  pub bit_put : (k : ℕ) → is_set k (set words (n / 64) (bit_or word (1 * 2 ^ (n % 64) % 2 ^ 64))) ≡ ((n == k) || is_set k words)
  bit_put k =
      let new : ℕ = bit_or word (1 * 2 ^ (n % 64) % 2 ^ 64) in
      elim (cases_eq (k / 64) (n / 64)) [
        | inr other ↦ elsewhere words (n / 64) new k other ∙ sym (ap (λ b. b || is_set k words) (apart n k (λ e. other (ap (λ m. m / 64) (sym e)))))
        | inl e ↦ there words (n / 64) new k low e ∙ (elim (cases_eq n k) as (λ _. (bit_at new (k % 64) == 1) ≡ ((n == k) || is_set k words)) [
          | inl same ↦ ap (λ m. bit_at new (m % 64) == 1) (sym same) ∙ ap (λ b. b == 1) (bit_at_set_same w64 word (n % 64) (omega arith)) ∙ sym (ap (λ b. b || is_set k words) (eq-eqb n k same))
          | inr differs ↦ ap (λ b. b == 1) (bit_at_set_other w64 word (n % 64) (omega arith) (k % 64) (λ f. differs (omega arith))) ∙ was k e ∙ sym (ap (λ b. b || is_set k words) (apart n k differs))
        ])
      ]

  pub bit_cleared : (k : ℕ) → is_set k (set words (n / 64) (bit_and word (bit_not w64 (1 * 2 ^ (n % 64) % 2 ^ 64)))) ≡ (not (n == k) && is_set k words)
  bit_cleared k =
      let new : ℕ = bit_and word (bit_not w64 (1 * 2 ^ (n % 64) % 2 ^ 64)) in
      elim (cases_eq (k / 64) (n / 64)) [
        | inr other ↦ elsewhere words (n / 64) new k other ∙ sym (ap (λ b. not b && is_set k words) (apart n k (λ e. other (ap (λ m. m / 64) (sym e)))))
        | inl e ↦ there words (n / 64) new k low e ∙ (elim (cases_eq n k) as (λ _. (bit_at new (k % 64) == 1) ≡ (not (n == k) && is_set k words)) [
          | inl same ↦ ap (λ m. bit_at new (m % 64) == 1) (sym same) ∙ ap (λ b. b == 1) (bit_at_clear_same w64 word (n % 64) (omega arith)) ∙ sym (ap (λ b. not b && is_set k words) (eq-eqb n k same))
          | inr differs ↦ ap (λ b. b == 1) (bit_at_clear_other w64 word (n % 64) (omega arith) (k % 64) (omega arith) (λ f. differs (omega arith))) ∙ was k e ∙ sym (ap (λ b. not b && is_set k words) (apart n k differs))
        ])
      ]

-- a bit behind the last word
pub bit_not_there : (words : List ℕ) (n : ℕ) → 64 * length words ≤ n → (k : ℕ) → is_set k words ≡ (not (n == k) && is_set k words)
bit_not_there words n high k = elim (cases_eq n k) [
  | inl e ↦ none_set_behind k words (omega arith) ∙ sym (ap (λ b. not b && is_set k words) (eq-eqb n k e))
  | inr other ↦ sym (ap (λ b. not b && is_set k words) (apart n k other))
]

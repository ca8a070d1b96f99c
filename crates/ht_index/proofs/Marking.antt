-- Which words are marked as not 0, as bits of them change.
use Rattle.std.proofs.Common.{◌≡◌, ℕ, ◌/◌, ◌%◌, ◌≤◌, ◌==◌, ◌&&◌, ◌||◌, not, true, false, List, [], refl, sym, ap, ◌∙◌, inl, inr, arith, eq-eqb}
use Rattle.std.specs.Int.{bit_at}
use Rattle.std.proofs.lemmas.Bool.{cases_eq}
use Rattle.std.proofs.lemmas.Nat.Bits.{bit_at-zero}
use Rattle.ht_index.specs.Sets.{Mark, is_set, word_at}
use Rattle.ht_index.proofs.Places.{apart}

pub none_of_zero : (n : ℕ) (words : List ℕ) → word_at (n / 64) words ≡ 0 → is_set n words ≡ false
none_of_zero n words e = ap (λ w. bit_at w (n % 64) == 1) e ∙ ap (λ b. b == 1) (bit_at-zero (n % 64))

not_zero : (w : ℕ) → (w ≡ 0 → ⊥) → not (w == 0) ≡ true
not_zero w other = ap not (apart w 0 other)

pub none_marked : Mark [] []
none_marked place = none_of_zero place [] refl

-- with more zeros
pub same_marks : (words new full marked : List ℕ) → ((place : ℕ) → word_at place new ≡ word_at place words) → ((place : ℕ) → word_at place marked ≡ word_at place full) → Mark full words → Mark marked new
same_marks words new full marked same alike marks place =
    ap (λ w. bit_at w (place % 64) == 1) (alike (place / 64)) ∙ marks place ∙ ap (λ w. not (w == 0)) (sym (same place))

module _ (words new full : List ℕ) (n : ℕ) (marks : Mark full words) (others : (place : ℕ) → (place ≡ n / 64 → ⊥) → word_at place new ≡ word_at place words) where
  elsewhere : (place : ℕ) → (n / 64 ≡ place → ⊥) → is_set place full ≡ not (word_at place new == 0)
  elsewhere place other = marks place ∙ ap (λ w. not (w == 0)) (sym (others place (λ e. other (sym e))))

  pub put_marks : (marked : List ℕ) → ((k : ℕ) → is_set k new ≡ ((n == k) || is_set k words)) → ((k : ℕ) → is_set k marked ≡ ((n / 64 == k) || is_set k full)) → Mark marked new
  put_marks marked bits marking place = elim (cases_eq (n / 64) place) [
    | inl e ↦ marking place ∙ ap (λ b. b || is_set place full) (eq-eqb (n / 64) place e) ∙ sym (not_zero (word_at place new) (not_none e))
    | inr other ↦ marking place ∙ ap (λ b. b || is_set place full) (apart (n / 64) place other) ∙ elsewhere place other
  ]
    where
      not_none : n / 64 ≡ place → word_at place new ≡ 0 → ⊥
      not_none e zero =
          let there : is_set n new ≡ true = bits n ∙ ap (λ b. b || is_set n words) (eq-eqb n n refl) in
          let none : is_set n new ≡ false = none_of_zero n new (ap (λ p. word_at p new) e ∙ zero) in
          let no : true ≡ false = sym there ∙ none in
          cc

  pub emptied_marks : (marked : List ℕ) → word_at (n / 64) new ≡ 0 → ((k : ℕ) → is_set k marked ≡ (not (n / 64 == k) && is_set k full)) → Mark marked new
  emptied_marks marked zero marking place = elim (cases_eq (n / 64) place) [
    | inl e ↦ marking place ∙ ap (λ b. not b && is_set place full) (eq-eqb (n / 64) place e) ∙ sym (ap (λ p. not (word_at p new == 0)) (sym e) ∙ ap (λ w. not (w == 0)) zero)
    | inr other ↦ marking place ∙ ap (λ b. not b && is_set place full) (apart (n / 64) place other) ∙ elsewhere place other
  ]

  pub kept_marks : word_at (n / 64) new ≤ word_at (n / 64) words → (word_at (n / 64) new ≡ 0 → ⊥) → Mark full new
  kept_marks less some place = elim (cases_eq (n / 64) place) [
    | inl e ↦
        marks place
        ∙ ap (λ p. not (word_at p words == 0)) (sym e)
        ∙ not_zero (word_at (n / 64) words) (λ zero. some (omega arith))
        ∙ sym (ap (λ p. not (word_at p new == 0)) (sym e) ∙ not_zero (word_at (n / 64) new) some)
    | inr other ↦ elsewhere place other
  ]

-- The first bit that is set.
use Rattle.std.proofs.Common.{◌≡◌, ℕ, ◌+◌, ◌*◌, ◌/◌, ◌%◌, ◌^◌, ◌-◌, ◌<◌, ◌≤◌, ◌==◌, false, List, length, Some, None, sym, ap, ◌∙◌, inl, inr, arith, w64}
use Rattle.std.specs.Int.{bit_at, trailing_zeros}
use Rattle.std.proofs.lemmas.Bool.{cases_lt}
use Rattle.std.proofs.lemmas.Nat.{shr-shr}
use Rattle.std.proofs.lemmas.Nat.Bits.{bit_at-zero, bit_at-trailing_zeros, bit_at_above}
use Rattle.ht_index.specs.Sets.{IsFirst, is_set, word_at}
use Rattle.ht_index.proofs.Marking.{none_of_zero}
use Rattle.ht_index.proofs.Setting.{none_set_behind}

-- none is set from a number up to a place
abbrev pub NoneUpTo : ℕ → List ℕ → ℕ → Type 0
NoneUpTo from words place = (n : ℕ) → from ≤ n → n < 64 * place → is_set n words ≡ false

-- where it is the lowest of a word
pub first_of_word : (words : List ℕ) (from place bits : ℕ) → bits ≡ word_at place words → 0 < bits → bits < 2 ^ 64 → from ≤ 64 * place → NoneUpTo from words place → IsFirst from words (Some (64 * place + trailing_zeros w64 bits))
first_of_word words from place bits read some fits low none =
    let lowest = bit_at-trailing_zeros w64 bits some fits in
    let first : ℕ = 64 * place + trailing_zeros w64 bits in (
      omega arith,
      ap (λ w. bit_at w (first % 64) == 1) (word_of first (omega (arith, lowest.0)) ∙ sym read) ∙ ap (λ k. bit_at bits k == 1) (bit_of first (trailing_zeros w64 bits) (omega arith) lowest.0) ∙ ap (λ b. b == 1) lowest.1,
      λ n from_low below. elim (cases_lt n (64 * place)) [
        | inl before ↦ none n from_low before
        | inr within ↦
            ap (λ w. bit_at w (n % 64) == 1) (word_of n (omega (arith, lowest.0)) ∙ sym read)
            ∙ ap (λ k. bit_at bits k == 1) (bit_of n (n - 64 * place) (omega arith) (omega (arith, lowest.0)))
            ∙ ap (λ b. b == 1) (lowest.2 (n - 64 * place) (omega arith))
      ],
    )
  where
    word_of : (n : ℕ) → (64 * place ≤ n) × (n < 64 * place + 64) → word_at (n / 64) words ≡ word_at place words
    word_of n h = let e : n / 64 ≡ place = omega (arith, h.0, h.1) in ap (λ p. word_at p words) e

    bit_of : (n k : ℕ) → n ≡ 64 * place + k → k < 64 → n % 64 ≡ k
    bit_of n k e l = omega arith

-- a word without those in front of a number
module _ (words : List ℕ) (from : ℕ) where
  ahead : (word n : ℕ) → word ≡ word_at (from / 64) words → from ≤ n → n < 64 * (from / 64) + 64 → is_set n words ≡ (bit_at (word / 2 ^ (from % 64)) (n - from) == 1)
  ahead word n read low high =
      let e : n / 64 ≡ from / 64 = omega arith in
      let k : n % 64 ≡ from % 64 + (n - from) = omega arith in
      ap (λ p. bit_at (word_at p words) (n % 64) == 1) e
      ∙ ap (λ w. bit_at w (n % 64) == 1) (sym read)
      ∙ ap (λ m. bit_at word m == 1) k
      ∙ ap (λ x. (x % 2) == 1) (sym (shr-shr word (from % 64) (n - from)))

  pub none_ahead : (word : ℕ) → word ≡ word_at (from / 64) words → word / 2 ^ (from % 64) ≡ 0 → NoneUpTo from words (from / 64 + 1)
  none_ahead word read zero n low high = ahead word n read low (omega arith) ∙ ap (λ w. bit_at w (n - from) == 1) zero ∙ ap (λ b. b == 1) (bit_at-zero (n - from))

  pub first_ahead : (word : ℕ) → word ≡ word_at (from / 64) words → word < 2 ^ 64 → 0 < word / 2 ^ (from % 64) → word / 2 ^ (from % 64) < 2 ^ 64 → (from % 64 + trailing_zeros w64 (word / 2 ^ (from % 64)) < 64) × IsFirst from words (Some (from + trailing_zeros w64 (word / 2 ^ (from % 64))))
  first_ahead word read fits some small =
      let rest : ℕ = word / 2 ^ (from % 64) in
      let lowest = bit_at-trailing_zeros w64 rest some small in
      let k : ℕ = trailing_zeros w64 rest in
      let there : bit_at word (from % 64 + k) ≡ 1 = ap (λ x. x % 2) (sym (shr-shr word (from % 64) k)) ∙ lowest.1 in
      let within : from % 64 + k < 64 = elim (cases_lt (from % 64 + k) 64) [
        | inl l ↦ l
        | inr high ↦ let no : bit_at word (from % 64 + k) ≡ 0 = bit_at_above word 64 (from % 64 + k) fits high in absurd (omega arith)
      ] in (
        within,
        (
          omega arith,
          ahead word (from + k) read (omega arith) (omega arith) ∙ ap (λ m. bit_at rest m == 1) (back k) ∙ ap (λ b. b == 1) lowest.1,
          λ n low below. ahead word n read low (omega arith) ∙ ap (λ b. b == 1) (lowest.2 (n - from) (omega arith)),
        ),
      )
    where
      back : (k : ℕ) → from + k - from ≡ k
      back k = omega arith

pub one_word_more : (words : List ℕ) (from place : ℕ) → word_at place words ≡ 0 → NoneUpTo from words place → NoneUpTo from words (place + 1)
one_word_more words from place zero none n low high = elim (cases_lt n (64 * place)) [
  | inl before ↦ none n low before
  | inr within ↦ let e : n / 64 ≡ place = omega arith in none_of_zero n words (ap (λ p. word_at p words) e ∙ zero)
]

pub none_at_all : (words : List ℕ) (from place : ℕ) → length words ≤ place → NoneUpTo from words place → IsFirst from words None
none_at_all words from place end none n low = elim (cases_lt n (64 * place)) [
  | inl before ↦ none n low before
  | inr behind ↦ none_set_behind n words (omega arith)
]

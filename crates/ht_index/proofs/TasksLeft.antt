-- What is left of a set, as one goes over it.
use Rattle.std.proofs.Common.{◌≡◌, ℕ, ◌+◌, ◌*◌, ◌/◌, ◌%◌, ◌^◌, ◌-◌, ◌<◌, ◌≤◌, ◌==◌, ◌||◌, suc, not, Bool, true, false, List, [], ◌∷◌, drop, length, replicate, get_or, Some, None, Less, refl, sym, ap, ◌∙◌, inl, inr, arith, eq-eqb, w64}
use Rattle.std.specs.Prelude.{bit_and}
use Rattle.std.specs.Int.{bit_at, bit_not, trailing_zeros}
use Rattle.std.specs.List.{AllByRecursion}
use Rattle.std.specs.Ordering.{nat_cmp}
use Rattle.std.specs.Cmp.{nat_cmp_is}
use Rattle.std.proofs.lemmas.Bool.{cases_eq, cases_lt, cases_order, eqb-true}
use Rattle.std.proofs.lemmas.List.{get_or_append_left, get_or-append_right, get_or_at, get_or-drop, get_or-replicate, length-replicate}
use Rattle.std.proofs.lemmas.Nat.Bits.{bit_at-zero, bit_at-trailing_zeros, bit_at_clear_same, bit_at_clear_other}
use Rattle.ht_base.specs.declared.task_id.TaskId.{TaskId}
use Rattle.ht_index.specs.Indexes.{has}
use Rattle.ht_index.specs.Sets.{IsFirst, Mark, is_set, tasks_in, word_at, words_left}
use Rattle.ht_index.proofs.Gathered.{has_set, no_tasks, same_tasks, tasks_ascend}
use Rattle.ht_index.proofs.Members.{one_list}
use Rattle.ht_index.proofs.Places.{apart}

-- ---- the words

module _ (place bits : ℕ) (words : List ℕ) where
  zeros : length (replicate {A = ℕ} place 0) ≡ place
  zeros = length-replicate {A = ℕ} place 0

  in_front : (p : ℕ) → p < place → word_at p (words_left place bits words) ≡ 0
  in_front p low = get_or_append_left (replicate place 0) (bits ∷ drop (place + 1) words) 0 p (omega (arith, zeros)) ∙ get_or-replicate place p 0 0 low

  here : (p : ℕ) → p ≡ place → word_at p (words_left place bits words) ≡ bits
  here p e = get_or_at (replicate place 0) bits (drop (place + 1) words) 0 p (zeros ∙ sym e)

  behind : (p : ℕ) → place < p → word_at p (words_left place bits words) ≡ word_at p words
  behind p high =
      let next : p - place ≡ suc (p - place - 1) = omega arith in
      let at : place + 1 + (p - place - 1) ≡ p = omega arith in
      get_or-append_right (replicate place 0) (bits ∷ drop (place + 1) words) place p 0 zeros (omega arith)
      ∙ ap (λ i. get_or (bits ∷ drop (place + 1) words) i 0) next
      ∙ get_or-drop (place + 1) words (p - place - 1) 0
      ∙ ap (λ i. get_or words i 0) at

-- ---- at first

pub all_left : (words : List ℕ) → tasks_in (words_left 0 (word_at 0 words) words) ≡ tasks_in words
all_left words = same_tasks words (words_left 0 (word_at 0 words) words) (λ p. elim (cases_eq p 0) [
  | inl e ↦ here 0 (word_at 0 words) words p e ∙ ap (λ q. word_at q words) (sym e)
  | inr other ↦ behind 0 (word_at 0 words) words p (omega arith)
])

-- ---- where a word is done

unmarked : (full words : List ℕ) (p : ℕ) → Mark full words → is_set p full ≡ false → word_at p words ≡ 0
unmarked full words p marks none = at (word_at p words == 0) refl
  where
    at : (b : Bool) → (word_at p words == 0) ≡ b → word_at p words ≡ 0
    at true e = eqb-true (word_at p words) 0 e
    at false e = let no : true ≡ false = sym (ap not e) ∙ sym (marks p) ∙ none in absurd cc

marked : (full words : List ℕ) (p : ℕ) → Mark full words → is_set p full ≡ true → 0 < word_at p words
marked full words p marks there = elim (cases_eq (word_at p words) 0) [
  | inl e ↦ let no : true ≡ false = sym there ∙ marks p ∙ ap not (eq-eqb (word_at p words) 0 e) in absurd cc
  | inr other ↦ omega arith
]

-- the next that isn't 0
pub went_on : (full words : List ℕ) (place next : ℕ) → Mark full words → IsFirst (place + 1) full (Some next) → (0 < word_at next words) × (tasks_in (words_left next (word_at next words) words) ≡ tasks_in (words_left place 0 words))
went_on full words place next marks first = (
  marked full words next marks first.1,
  same_tasks (words_left place 0 words) (words_left next (word_at next words) words) (λ p. elim (cases_lt place p) [
    | inr low ↦ in_front next (word_at next words) words p (omega (arith, first.0)) ∙ sym (before p low)
    | inl high ↦ elim (cases_order p next) [
      | inl e ↦ here next (word_at next words) words p e ∙ ap (λ q. word_at q words) (sym e) ∙ sym (behind place 0 words p high)
      | inr (inl low) ↦ in_front next (word_at next words) words p low ∙ sym (behind place 0 words p high ∙ unmarked full words p marks (first.2 p (omega arith) low))
      | inr (inr far) ↦ behind next (word_at next words) words p far ∙ sym (behind place 0 words p high)
    ]
  ]),
)
  where
    before : (p : ℕ) → p ≤ place → word_at p (words_left place 0 words) ≡ 0
    before p low = elim (cases_eq p place) [
      | inl e ↦ here place 0 words p e
      | inr other ↦ in_front place 0 words p (omega arith)
    ]

-- or none
pub none_left : (full words : List ℕ) (place : ℕ) → Mark full words → IsFirst (place + 1) full None → tasks_in (words_left place 0 words) ≡ []
none_left full words place marks none = same_tasks [] (words_left place 0 words) (λ p. elim (cases_order p place) [
  | inl e ↦ here place 0 words p e
  | inr (inl low) ↦ in_front place 0 words p low
  | inr (inr far) ↦ behind place 0 words p far ∙ unmarked full words p marks (none p (omega arith))
]) ∙ no_tasks

-- ---- the lowest of a word

all_behind : (n : ℕ) (xs : List TaskId) → ((k : ℕ) → has k xs ≡ true → n < k) → AllByRecursion (λ y. nat_cmp n y.0 ≡ Less) xs
all_behind n [] low = tt
all_behind n (x ∷ xs) low = (sym (nat_cmp_is n x.0 Less (low x.0 (ap (λ b. b || has x.0 xs) (eq-eqb x.0 x.0 refl)))), all_behind n xs (λ k there. low k (more (x.0 == k) (has k xs) there)))
  where
    more : (a b : Bool) → b ≡ true → (a || b) ≡ true
    more true b e = refl
    more false b e = e

module _ (words : List ℕ) (place bits : ℕ) (some : 0 < bits) (fits : bits < 2 ^ 64) where
  abbrev bit : ℕ
  bit = trailing_zeros w64 bits

  abbrev less : ℕ
  less = bit_and bits (bit_not w64 (1 * 2 ^ bit % 2 ^ 64))

  abbrev task : TaskId
  task = record { 0 = 64 * place + bit }

  abbrev old : List ℕ
  old = words_left place bits words

  abbrev new : List ℕ
  new = words_left place less words

  lowest : (bit < 64) × (bit_at bits bit ≡ 1) × ((i : ℕ) → i < bit → bit_at bits i ≡ 0)
  lowest = bit_at-trailing_zeros w64 bits some fits

  -- one of the words
  at_word : (b n : ℕ) → n / 64 ≡ place → is_set n (words_left place b words) ≡ (bit_at b (n % 64) == 1)
  at_word b n e = ap (λ w. bit_at w (n % 64) == 1) (here place b words (n / 64) e)

  lower : (b n : ℕ) → n / 64 < place → is_set n (words_left place b words) ≡ false
  lower b n l = ap (λ w. bit_at w (n % 64) == 1) (in_front place b words (n / 64) l) ∙ ap (λ b. b == 1) (bit_at-zero (n % 64))

  higher : (n : ℕ) → place < n / 64 → is_set n new ≡ is_set n old
  higher n h = ap (λ w. bit_at w (n % 64) == 1) (behind place less words (n / 64) h ∙ sym (behind place bits words (n / 64) h))

  now : (n : ℕ) → ((task.0 == n) || is_set n new) ≡ is_set n old
  now n = elim (cases_order (n / 64) place) [
    | inr (inl l) ↦ ap (λ b. b || is_set n new) (apart task.0 n (λ e. omega (arith, lowest.0))) ∙ lower less n l ∙ sym (lower bits n l)
    | inr (inr h) ↦ ap (λ b. b || is_set n new) (apart task.0 n (λ e. omega (arith, lowest.0))) ∙ higher n h
    | inl e ↦ elim (cases_eq task.0 n) [
      | inl same ↦
          let k : n % 64 ≡ bit = omega (arith, lowest.0) in
          ap (λ b. b || is_set n new) (eq-eqb task.0 n same) ∙ sym (at_word bits n e ∙ ap (λ i. bit_at bits i == 1) k ∙ ap (λ b. b == 1) lowest.1)
      | inr differs ↦
          ap (λ b. b || is_set n new) (apart task.0 n differs)
          ∙ at_word less n e
          ∙ ap (λ b. b == 1) (bit_at_clear_other w64 bits bit lowest.0 (n % 64) (omega arith) (λ k. differs (omega arith)))
          ∙ sym (at_word bits n e)
    ]
  ]

  -- the others are behind it
  far : (n : ℕ) → is_set n new ≡ true → task.0 < n
  far n there = elim (cases_order (n / 64) place) [
    | inr (inl l) ↦ let no : true ≡ false = sym there ∙ lower less n l in absurd cc
    | inr (inr h) ↦ omega (arith, lowest.0)
    | inl e ↦ elim (cases_order (n % 64) bit) [
      | inl same ↦
          let no : true ≡ false = sym there ∙ at_word less n e ∙ ap (λ i. bit_at less i == 1) same ∙ ap (λ b. b == 1) (bit_at_clear_same w64 bits bit lowest.0) in
          absurd cc
      | inr (inl l) ↦
          let no : true ≡ false = sym there ∙ at_word less n e ∙ ap (λ b. b == 1) (bit_at_clear_other w64 bits bit lowest.0 (n % 64) (omega arith) (λ k. omega arith) ∙ lowest.2 (n % 64) l) in
          absurd cc
      | inr (inr h) ↦ omega arith
    ]
  ]

  pub taken : tasks_in old ≡ task ∷ tasks_in new
  taken = one_list (tasks_in old) (task ∷ tasks_in new) (tasks_ascend old) (all_behind task.0 (tasks_in new) (λ k there. far k (sym (has_set k new) ∙ there)), tasks_ascend new)
      (λ n. has_set n old ∙ sym (ap (λ b. (task.0 == n) || b) (has_set n new) ∙ now n))

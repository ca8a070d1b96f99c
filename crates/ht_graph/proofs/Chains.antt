-- Chains by their length, and the rounds that find the long ones.
use Rattle.std.proofs.Common.{◌≡◌, ◌∙◌, ℕ, ◌+◌, ◌<◌, ◌≤◌, ◌==◌, zero, suc, Bool, true, false, ◌||◌, List, [], ◌∷◌, length, map, replicate, Some, ap, arith, eq-eqb, inl, inr, refl, sym}
use Rattle.std.specs.Prelude.{slice_get, slice_index_or}
use Rattle.std.specs.List.{list_any, range_with_len}
use Rattle.std.specs.Bool.{Decides}
use Rattle.std.proofs.lemmas.Bool.{cases_lt, eqb-true, or_cases, or_right}
use Rattle.std.proofs.lemmas.List.FromFn.{get_or-map-range_with_len, length-map-range_with_len}
use Rattle.ht_base.specs.Persons.{has}
use Rattle.ht_graph.proofs.Reaching.{any_of, some_of}
use Rattle.ht_graph.specs.Graphs.{IsClosed, IsDeeper, IsInCycle, IsReached, is_near, leads}

-- ---- lists of numbers from one on

pub some_in_range : (test : ℕ → Bool) (a n : ℕ) → list_any test (range_with_len a n) ≡ true → (p : ℕ) × (a ≤ p) × (test p ≡ true)
some_in_range test a zero e = absurd (cc)
some_in_range test a (suc n) e = elim (or_cases (test a) (list_any test (range_with_len (a + 1) n)) e) [
  | inl here ↦ (a, omega arith, here)
  | inr there ↦ let rest = some_in_range test (a + 1) n there in (rest.0, (let low = rest.1 in omega arith), rest.2)
]

pub any_in_range : (test : ℕ → Bool) (a n p : ℕ) → a ≤ p → p < a + n → test p ≡ true → list_any test (range_with_len a n) ≡ true
any_in_range test a zero p low high e = absurd (omega arith)
any_in_range test a (suc n) p low high e = elim (cases_lt a p) [
  | inl h ↦ or_right (test a) (list_any test (range_with_len (a + 1) n)) (any_in_range test (a + 1) n p (omega arith) (omega arith) e)
  | inr h ↦ let one : p ≡ a = omega arith in ap (λ (b : Bool). b || list_any test (range_with_len (a + 1) n)) (sym (ap test one) ∙ e)
]

any_mapped : (test : ℕ → Bool) (xs : List ℕ) → list_any (λ b. b) (map test xs) ≡ list_any test xs
any_mapped test [] = refl
any_mapped test (x ∷ xs) = ap (λ (b : Bool). test x || b) (any_mapped test xs)

map_same : {A : Type 0} (f g : ℕ → A) (xs : List ℕ) → ((x : ℕ) → f x ≡ g x) → map f xs ≡ map g xs
map_same f g [] h = refl
map_same f g (x ∷ xs) h = rw (h x, map_same f g xs h) refl

any_same : (f g : ℕ → Bool) (xs : List ℕ) → ((i x : ℕ) → slice_get xs i ≡ Some x → f x ≡ g x) → list_any f xs ≡ list_any g xs
any_same f g [] h = refl
any_same f g (x ∷ xs) h = rw (h 0 x refl, any_same f g xs (λ i y at. h (suc i) y at)) refl

-- it stands at a place of the list
stands : (x : ℕ) (xs : List ℕ) → has x xs ≡ true → (i : ℕ) × (slice_get xs i ≡ Some x)
stands x [] h = absurd (cc)
stands x (y ∷ xs) h = elim (or_cases (y == x) (has x xs) h) [
  | inl here ↦ (0, ap (λ (z : ℕ). Some z) (eqb-true y x here))
  | inr there ↦ let rest = stands x xs there in (suc rest.0, rest.1)
]

module _ (next : ℕ → List ℕ) where
  -- a chain of n steps begins here
  abbrev pub has_chain : ℕ → ℕ → Bool
  has_chain zero from = true
  has_chain (suc n) from = list_any (has_chain n) (next from)

  leads_somewhere : (n a : ℕ) → has_chain n a ≡ true → (b : ℕ) × (leads next n a b ≡ true)
  leads_somewhere zero a e = (a, eq-eqb a a refl)
  leads_somewhere (suc n) a e =
      let step = some_of (has_chain n) (next a) e in
      let rest = leads_somewhere n step.0 step.2 in
      (rest.0, any_of (λ place. leads next n place rest.0) (next a) step.0 step.1 rest.1)

  chain_from : (n a b : ℕ) → leads next n a b ≡ true → has_chain n a ≡ true
  chain_from zero a b e = refl
  chain_from (suc n) a b e =
      let step = some_of (λ place. leads next n place b) (next a) e in
      any_of (has_chain n) (next a) step.0 step.1 (chain_from n step.0 b step.2)

  chain_shorter : (n a : ℕ) → has_chain (suc n) a ≡ true → has_chain n a ≡ true
  chain_shorter zero a e = refl
  chain_shorter (suc n) a e =
      let step = some_of (has_chain (suc n)) (next a) e in
      any_of (has_chain n) (next a) step.0 step.1 (chain_shorter n step.0 step.2)

  chain_front : (n m a : ℕ) → m ≤ n → has_chain n a ≡ true → has_chain m a ≡ true
  chain_front zero m a h e = let one : m ≡ 0 = omega arith in rw one refl
  chain_front (suc n) m a h e = elim (cases_lt n m) [
    | inl past ↦ let one : m ≡ suc n = omega arith in rw one e
    | inr low ↦ chain_front n m a low (chain_shorter n a e)
  ]

  -- what a chain reaches, a short one does where there is no long one
  pub near_reached : (most : ℕ) → (IsDeeper next most → ⊥) → (from place : ℕ) → Decides (is_near next most from place) (IsReached next from place)
  near_reached most short from place = (
    λ e. let n = some_in_range (λ n. leads next n from place) 1 most e in reached_by n.0 n.1 n.2,
    λ r. elim (cases_lt most (suc r.0)) [
      | inl far ↦ absurd (short (suc r.0, far, (from, place, r.1)))
      | inr near ↦ any_in_range (λ n. leads next n from place) 1 most (suc r.0) (omega arith) (omega arith) r.1
    ],
  )
    where
      reached_by : (n : ℕ) → 1 ≤ n → leads next n from place ≡ true → IsReached next from place
      reached_by zero low e = absurd (omega arith)
      reached_by (suc n) low e = (n, e)

  -- for each place whether a chain of n steps begins there
  abbrev pub chains_of : ℕ → ℕ → List Bool
  chains_of count n = map (has_chain n) (range_with_len 0 count)

  module _ (count : ℕ) (closed : IsClosed count next) where
    leads_from : (place to : ℕ) → has to (next place) ≡ true → place < count
    leads_from place to h = let at = stands to (next place) h in (closed place at.0 to at.1).0

    pub cycle_within : (place : ℕ) → IsInCycle next place → place < count
    cycle_within place r = let step = some_of (λ p. leads next r.0 p place) (next place) r.1 in leads_from place step.0 step.1

    -- ---- rounds

    pub first_round : (n : ℕ) → n ≡ count → replicate n true ≡ chains_of count 0
    first_round n is = rw is (all 0 count)
      where
        all : (a m : ℕ) → replicate m true ≡ map (has_chain 0) (range_with_len a m)
        all a zero = refl
        all a (suc m) = ap (λ (bs : List Bool). true ∷ bs) (all (a + 1) m)

    pub next_round : (k : ℕ) (long longer : List Bool) → long ≡ chains_of count k → longer ≡ map (λ place. list_any (λ to. slice_index_or long to false) (next place)) (range_with_len 0 (length long)) → longer ≡ chains_of count (k + 1)
    next_round k long longer is made =
        let many : length long ≡ count = ap length is ∙ length-map-range_with_len (has_chain k) 0 count in
        let one_more : k + 1 ≡ suc k = omega arith in
        made ∙ rw (many, one_more) (map_same (λ place. list_any (λ to. slice_index_or long to false) (next place)) (has_chain (suc k)) (range_with_len 0 count)
        (λ place. any_same (λ to. slice_index_or long to false) (has_chain k) (next place)
        (λ i to at. rw is (get_or-map-range_with_len (has_chain k) 0 count to to false (closed place i to at).1 (omega arith)))))

    pub deep : (most : ℕ) → Decides (list_any (λ b. b) (chains_of count (most + 1))) (IsDeeper next most)
    deep most = (long, no_long)
      where
        one_more : most + 1 ≡ suc most
        one_more = omega arith

        long : list_any (λ b. b) (chains_of count (most + 1)) ≡ true → IsDeeper next most
        long e =
            let start = some_in_range (has_chain (most + 1)) 0 count (sym (any_mapped (has_chain (most + 1)) (range_with_len 0 count)) ∙ e) in
            let end = leads_somewhere (most + 1) start.0 start.2 in
            (most + 1, omega arith, (start.0, end.0, end.1))

        no_long : IsDeeper next most → list_any (λ b. b) (chains_of count (most + 1)) ≡ true
        no_long chain =
            let far = chain.1 in
            let front = chain_front chain.0 (suc most) chain.2.0 (omega arith) (chain_from chain.0 chain.2.0 chain.2.1 chain.2.2) in
            let step = some_of (has_chain most) (next chain.2.0) front in
            let within = leads_from chain.2.0 step.0 step.1 in
            any_mapped (has_chain (most + 1)) (range_with_len 0 count) ∙ any_in_range (has_chain (most + 1)) 0 count chain.2.0 (omega arith) (omega arith) (rw one_more front)

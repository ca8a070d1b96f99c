-- The tasks of a tree level by level: its top, and what is below it.
use Rattle.std.proofs.Common.{◌≡◌, ◌∙◌, ℕ, ◌+◌, zero, suc, List, [], ◌∷◌, ap, arith, map-id, refl, sym}
use Rattle.std.specs.List.{range_with_len, sum_by}
use Rattle.std.proofs.lemmas.List.FromFn.{sum_by-map-range_with_len_more}
use Rattle.std.proofs.lemmas.List.Sums.{sum_by-cons}
use Rattle.ht_models.specs.SubTrees.{chains}

nothing : (xs : List ℕ) → sum_by (λ _. 0) xs ≡ 0
nothing [] = refl
nothing (x ∷ xs) = sum_by-cons (λ _. 0) x xs ∙ omega (arith, nothing xs)

both : (f g : ℕ → ℕ) (xs : List ℕ) → sum_by (λ x. f x + g x) xs ≡ sum_by f xs + sum_by g xs
both f g [] = refl
both f g (x ∷ xs) = omega (arith, sum_by-cons (λ x. f x + g x) x xs, sum_by-cons f x xs, sum_by-cons g x xs, both f g xs)

module _ (next : ℕ → List ℕ) where
  -- the tasks of so many levels
  abbrev pub tasks : ℕ → ℕ → ℕ
  tasks n place = sum_by (λ n. chains next n place) (range_with_len 0 n)

  -- one more level
  more : (n place : ℕ) → tasks (n + 1) place ≡ tasks n place + chains next n place
  more n place =
      let all : List ℕ → ℕ = sum_by (λ n. chains next n place) in
      ap all (sym (map-id (range_with_len 0 (n + 1)))) ∙ sum_by-map-range_with_len_more (λ n. chains next n place) (λ n. n) 0 n n (omega arith) ∙ ap (λ ns. all ns + chains next n place) (map-id (range_with_len 0 n))

  -- the top, and as many levels of the trees below it
  pub top_and_below : (n place : ℕ) → tasks n place + chains next n place ≡ 1 + sum_by (tasks n) (next place)
  top_and_below zero place = let none = nothing (next place) in omega arith
  top_and_below (suc n) place =
      let one_more : n + 1 ≡ suc n = omega arith in
      let level : (p : ℕ) → tasks (suc n) p ≡ tasks n p + chains next n p = λ p. ap (λ k. tasks k p) (sym one_more) ∙ more n p in
      let below : sum_by (tasks (suc n)) (next place) ≡ sum_by (tasks n) (next place) + sum_by (chains next n) (next place) = (λ i. sum_by (λ p. level p i) (next place)) ∙ both (tasks n) (chains next n) (next place) in
      omega (arith, below, level place, top_and_below n place)

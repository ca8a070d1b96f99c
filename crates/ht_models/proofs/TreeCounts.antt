-- Chains and tasks that are counted no further than is asked, round by round.
use Rattle.std.proofs.Common.{◌≡◌, ◌∙◌, ℕ, ◌+◌, ◌<◌, suc, List, [], ◌∷◌, ◌++◌, length, map, replicate, ap, arith, inl, inr, map-id, refl, subst, sym}
use Rattle.std.specs.Prelude.{slice_index_or}
use Rattle.std.specs.List.{range_with_len, sum_by}
use Rattle.std.proofs.lemmas.Bool.{cases_lt}
use Rattle.std.proofs.lemmas.List.{get_or_past, get_or-replicate, length-replicate}
use Rattle.std.proofs.lemmas.List.FromFn.{get_or-map-range_with_len, length-map-range_with_len, map-range_with_len_more, sum_by-map-range_with_len_more}
use Rattle.std.proofs.lemmas.List.Sums.{sum_by-cons}
use Rattle.ht_base.specs.declared.limits.TheConstants.{MOST_LEVELS}
use Rattle.ht_models.specs.SubTrees.{AreCounted, chains, places_at, up_to_enough}

-- a sum of what is cut is cut where the whole sum is
cut_sum : (f g : ℕ → ℕ) → ((x : ℕ) → f x ≡ up_to_enough (g x)) → (xs : List ℕ) → up_to_enough (sum_by f xs) ≡ up_to_enough (sum_by g xs)
cut_sum f g cut [] = refl
cut_sum f g cut (x ∷ xs) = omega (arith, sum_by-cons f x xs, sum_by-cons g x xs, cut x, cut_sum f g cut xs)

-- one more of the places
pub counted_more : (f : ℕ → ℕ) (counts more : List ℕ) (place count : ℕ) → counts ≡ map f (range_with_len 0 place) → more ≡ counts ++ count ∷ [] → count ≡ f place → more ≡ map f (range_with_len 0 (place + 1))
counted_more f counts more place count is put one = put ∙ rw (is, one) (sym (map-range_with_len_more f 0 place place (omega arith)))

ones : (xs : List ℕ) → sum_by (λ _. 1) xs ≡ length xs
ones [] = refl
ones (x ∷ xs) = sum_by-cons (λ _. 1) x xs ∙ omega (arith, ones xs)

module _ (graph : List (List ℕ)) where
  abbrev pub tasks_of : ℕ → ℕ → ℕ
  tasks_of n place = sum_by (λ n. chains (places_at graph) n place) (range_with_len 0 n)

  -- of each place: the chains of n sub entries, and the tasks of fewer
  pub record IsRound (n : ℕ) (level sizes : List ℕ) : Type 0 where
    pub level_long : length level ≡ length graph
    pub sizes_long : length sizes ≡ length graph
    pub chained : (place : ℕ) → slice_index_or level place 0 ≡ up_to_enough (chains (places_at graph) n place)
    pub sized : (place : ℕ) → place < length graph → slice_index_or sizes place 0 ≡ up_to_enough (tasks_of n place)

  -- a level that is counted from another, which counts nothing past the graph
  counted : (f : ℕ → ℕ) (n place : ℕ) (level : List ℕ) → level ≡ map (λ p. up_to_enough (f p)) (range_with_len 0 (length graph)) → (place < length graph → up_to_enough (f place) ≡ up_to_enough (chains (places_at graph) (suc n) place)) → slice_index_or level place 0 ≡ up_to_enough (chains (places_at graph) (suc n) place)
  counted f n place level is same = elim (cases_lt place (length graph)) [
    | inl low ↦ rw is (get_or-map-range_with_len (λ p. up_to_enough (f p)) 0 (length graph) place place 0 low (omega arith)) ∙ same low
    | inr past ↦
        let none : places_at graph place ≡ [] = get_or_past graph place [] past in
        let long : length level ≡ length graph = rw is (length-map-range_with_len (λ p. up_to_enough (f p)) 0 (length graph)) in
        get_or_past level place 0 (omega arith) ∙ rw none refl
  ]

  pub first_round : (level sizes : List ℕ) (n : ℕ) → level ≡ map (λ place. up_to_enough (length (places_at graph place))) (range_with_len 0 (length graph)) → n ≡ length graph → sizes ≡ replicate n 1 → IsRound 1 level sizes
  first_round level sizes n is long all = record {
    level_long = rw is (length-map-range_with_len (λ place. up_to_enough (length (places_at graph place))) 0 (length graph));
    sizes_long = rw all (length-replicate n 1 ∙ long);
    chained = λ place. counted (λ p. length (places_at graph p)) 0 place level is (λ low. ap up_to_enough (sym (ones (places_at graph place))));
    sized = λ place low. rw all (get_or-replicate n place 1 0 (omega arith));
  }

  pub next_round : (n : ℕ) (level sizes longer sums : List ℕ) → IsRound n level sizes → sums ≡ map (λ place. up_to_enough (slice_index_or sizes place 0 + slice_index_or level place 0)) (range_with_len 0 (length sizes)) → longer ≡ map (λ place. up_to_enough (sum_by (λ to. slice_index_or level to 0) (places_at graph place))) (range_with_len 0 (length level)) → IsRound (n + 1) longer sums
  next_round n level sizes longer sums r added made = record {
    level_long = rw made (length-map-range_with_len (λ p. up_to_enough (below p)) 0 (length level)) ∙ r.level_long;
    sizes_long = rw added (length-map-range_with_len (λ p. up_to_enough (both p)) 0 (length sizes)) ∙ r.sizes_long;
    chained = λ place. rw one_more (counted below n place longer (rw (← r.level_long) made) (λ low. cut_sum (λ to. slice_index_or level to 0) (chains (places_at graph) n) r.chained (places_at graph place)));
    sized = λ place low.
        let sum : slice_index_or sums place 0 ≡ up_to_enough (both place) = rw added (get_or-map-range_with_len (λ p. up_to_enough (both p)) 0 (length sizes) place place 0 (rw r.sizes_long low) (omega arith)) in
        omega (arith, sum, r.chained place, r.sized place low, more place);
  }
    where
      below : ℕ → ℕ
      below place = sum_by (λ to. slice_index_or level to 0) (places_at graph place)

      both : ℕ → ℕ
      both place = slice_index_or sizes place 0 + slice_index_or level place 0

      one_more : n + 1 ≡ suc n
      one_more = omega arith

      more : (place : ℕ) → tasks_of (n + 1) place ≡ tasks_of n place + chains (places_at graph) n place
      more place =
          let tasks : List ℕ → ℕ = sum_by (λ n. chains (places_at graph) n place) in
          ap tasks (sym (map-id (range_with_len 0 (n + 1)))) ∙ sum_by-map-range_with_len_more (λ n. chains (places_at graph) n place) (λ n. n) 0 n n (omega arith) ∙ ap (λ ns. tasks ns + chains (places_at graph) n place) (map-id (range_with_len 0 n))

  pub all_counted : (n : ℕ) (level sizes : List ℕ) → n ≡ MOST_LEVELS → IsRound n level sizes → AreCounted graph (record { deep = level; sizes = sizes })
  all_counted n level sizes is r =
      let last : IsRound MOST_LEVELS level sizes = subst (λ n. IsRound n level sizes) is r in
      record { deep = λ place low. last.chained place; sizes = last.sized }

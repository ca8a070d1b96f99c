-- Names that are each found at their own place.
use Rattle.std.proofs.Common.{◌∙◌, List, Option, Some, ap, arith, get_or, length, map, option_map, zero-add, ℕ, ◌<◌, ◌≡◌}
use Rattle.std.specs.Prelude.{slice_get}
use Rattle.std.specs.List.{range_with_len}
use Rattle.std.proofs.lemmas.List.FromFn.{get_or-range_with_len, length-range_with_len}
use Rattle.std.proofs.lemmas.Option.{slice_get-get_or, slice_get-map, slice_get_within}
use Rattle.ht_base.specs.Places.{IsRepeated, place_in}

-- each number of a range stands at its own place
pub counted : (n j : ℕ) → j < n → slice_get (range_with_len 0 n) j ≡ Some j
counted n j low =
    let many = length-range_with_len 0 n in
    let is : get_or (range_with_len 0 n) j 0 ≡ j = get_or-range_with_len 0 n j 0 low ∙ zero-add j in
    slice_get-get_or (range_with_len 0 n) j 0 (omega arith) ∙ ap (λ (k : ℕ). Some k) is

-- where each name is found at its own place, none is repeated
pub none_repeated : (names : List (List ℕ)) → map (λ n. place_in n names) names ≡ map (λ i. Some i) (range_with_len 0 (length names)) → (i : ℕ) → IsRepeated names i → ⊥
none_repeated names own i r =
    let first = listed_place r.0 r.2 r.3 in
    let again = listed_place i r.2 r.4 in
    let low = r.1 in
    let same : r.0 ≡ i = cc in
    omega arith
  where
    listed_place : (j : ℕ) (x : List ℕ) → slice_get names j ≡ Some x → place_in x names ≡ Some j
    listed_place j x at =
        let listed : slice_get (map (λ n. place_in n names) names) j ≡ Some (place_in x names) = slice_get-map (λ n. place_in n names) names j ∙ ap (option_map (λ n. place_in n names)) at in
        let owned : slice_get (map (λ n. place_in n names) names) j ≡ Some (Some j) =
        ap (λ (ps : List (Option ℕ)). slice_get ps j) own ∙ slice_get-map (λ (k : ℕ). Some k) (range_with_len 0 (length names)) j ∙ ap (option_map (λ (k : ℕ). Some k)) (counted (length names) j (slice_get_within names j x at)) in
        cc

-- Where a name stands in a list of names.
use Rattle.std.proofs.Common.{◌≡◌, ◌<◌, ◌+◌, ◌∙◌, ℕ, zero, suc, Bool, true, false, List, [], ◌∷◌, Some, ap, arith, bytes_eq, length, refl}
use Rattle.std.specs.Prelude.{slice_get}
use Rattle.std.specs.Cmp.Lexicographic.{slice_cmp}
use Rattle.std.specs.Ordering.{nat_cmp}
use Rattle.std.proofs.lemmas.Map.Lookups.{exact_bytes}
use Rattle.std.proofs.lemmas.Option.{slice_get_within}
use Rattle.std.proofs.lemmas.Slice.Eq.{bytes_eq-Decides}
use Rattle.ht_base.specs.Places.{IsRepeated, place_in}
use Rattle.ht_base.proofs.Indexing.{found_at, names_found}

pub found_there : (name : List ℕ) (names : List (List ℕ)) (i : ℕ) → place_in name names ≡ Some i → slice_get names i ≡ Some name
found_there name names i h = found_at (slice_cmp nat_cmp) exact_bytes name names i (names_found name names ∙ h)

pub found_within : (name : List ℕ) (names : List (List ℕ)) (i : ℕ) → place_in name names ≡ Some i → i < length names
found_within name names i h = slice_get_within names i name (found_there name names i h)

-- the name at a place where none is repeated is found there
pub own_place : (name : List ℕ) (names : List (List ℕ)) (i : ℕ) → slice_get names i ≡ Some name → (IsRepeated names i → ⊥) → place_in name names ≡ Some i
own_place name [] i at alone = cc
own_place name (n ∷ ns) zero at alone =
    let same : n ≡ name = cc in
    rw ((bytes_eq-Decides n name).1 same) refl
own_place name (n ∷ ns) (suc i) at alone = here (bytes_eq n name) refl (λ k. own_place name ns i at k)
  where
    here : (b : Bool) → bytes_eq n name ≡ b → ((IsRepeated ns i → ⊥) → place_in name ns ≡ Some i) → place_in name (n ∷ ns) ≡ Some (suc i)
    here true e rest = absurd (alone (0, omega arith, name, ap (λ (x : List ℕ). Some x) ((bytes_eq-Decides n name).0 e), at))
    here false e rest =
        let next : i + 1 ≡ suc i = omega arith in
        rw (e, rest (λ r. alone (suc r.0, (let low = r.1 in omega arith), r.2, r.3, r.4))) (ap (λ (k : ℕ). Some k) next)

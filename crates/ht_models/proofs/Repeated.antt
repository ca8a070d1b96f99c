-- Names that stand twice, by their places.
use Rattle.std.proofs.Common.{◌≡◌, ℕ, zero, suc, ◌||◌, Bool, true, false, List, [], ◌∷◌, Some, refl, arith, bytes_eq, ap}
use Rattle.std.specs.Prelude.{slice_get}
use Rattle.std.specs.List.{list_any}
use Rattle.std.proofs.Math.Bool.{or-true}
use Rattle.std.proofs.lemmas.Slice.Eq.{bytes_eq-Decides}
use Rattle.ht_base.specs.Places.{IsRepeated}
use Rattle.ht_models.specs.Repeats.{has_repeat}

-- ---- a name among others

is_among : (name : List ℕ) (names : List (List ℕ)) (i : ℕ) → slice_get names i ≡ Some name → list_any (bytes_eq name) names ≡ true
is_among name [] i at = cc
is_among name (n ∷ ns) zero at =
    let same : name ≡ n = cc in
    rw ((bytes_eq-Decides name n).1 same) refl
is_among name (n ∷ ns) (suc i) at = rw (is_among name ns i at) (or-true (bytes_eq name n))

among_at : (name : List ℕ) (names : List (List ℕ)) → list_any (bytes_eq name) names ≡ true → (i : ℕ) × (slice_get names i ≡ Some name)
among_at name [] any = cc
among_at name (n ∷ ns) any = here (bytes_eq name n) refl any (λ k. among_at name ns k)
  where
    here : (same : Bool) → bytes_eq name n ≡ same → (same || list_any (bytes_eq name) ns) ≡ true
        → (list_any (bytes_eq name) ns ≡ true → (i : ℕ) × (slice_get ns i ≡ Some name)) → (i : ℕ) × (slice_get (n ∷ ns) i ≡ Some name)
    here true is any rest = (0, ap (λ (x : List ℕ). Some x) (let e = (bytes_eq-Decides name n).0 is in cc))
    here false is any rest = let found = rest any in (suc found.0, found.1)

-- ---- a name that stands twice

pub repeat_found : (names : List (List ℕ)) (i : ℕ) → IsRepeated names i → has_repeat names ≡ true
repeat_found [] i (j, low, name, first, second) = cc
repeat_found (n ∷ ns) zero (j, low, name, first, second) = absurd (omega arith)
repeat_found (n ∷ ns) (suc i) (zero, low, name, first, second) =
    let same : n ≡ name = cc in
    rw (is_among n ns i (rw same second)) refl
repeat_found (n ∷ ns) (suc i) (suc j, low, name, first, second) =
    rw (repeat_found ns i (j, (omega arith), name, first, second)) (or-true (list_any (bytes_eq n) ns))

pub repeat_at : (names : List (List ℕ)) → has_repeat names ≡ true → (i : ℕ) × IsRepeated names i
repeat_at [] any = cc
repeat_at (n ∷ ns) any = here (list_any (bytes_eq n) ns) refl any (λ k. repeat_at ns k)
  where
    here : (among : Bool) → list_any (bytes_eq n) ns ≡ among → (among || has_repeat ns) ≡ true
        → (has_repeat ns ≡ true → (i : ℕ) × IsRepeated ns i) → (i : ℕ) × IsRepeated (n ∷ ns) i
    here true is any rest = let found = among_at n ns is in (suc found.0, (0, (omega arith), n, refl, found.1))
    here false is any rest =
        let found = rest any in
        (suc found.0, (suc found.1.0, (let low = found.1.1 in omega arith), found.1.2, found.1.3, found.1.4))

pub no_repeat : (names : List (List ℕ)) → ((i : ℕ) → IsRepeated names i → ⊥) → has_repeat names ≡ false
no_repeat names none = here (has_repeat names) refl
  where
    here : (repeat : Bool) → has_repeat names ≡ repeat → has_repeat names ≡ false
    here true is = let found = repeat_at names is in absurd (none found.0 found.1)
    here false is = is

-- Lists of persons in ascending order: a push, and a search.
use Rattle.std.proofs.Common.{◌≡◌, ◌≢◌, ℕ, ◌+◌, ◌<◌, ◌≤◌, zero, suc, Bool, true, false, ◌||◌, ◌==◌, List, [], ◌∷◌, ◌++◌, length, get_or, Result, Ok, Err, is_ok, nat_cmp, refl, sym, inl, inr, eq-eqb, arith, ap}
use Rattle.std.proofs.lemmas.Bool.{cases_lt}
use Rattle.std.proofs.lemmas.Bool.Decides.{nat_tests}
use Rattle.std.specs.List.Sorted.{IsBinarySearchResult}
use Rattle.std.proofs.lemmas.List.Sorted.{searched}
use Rattle.ht_base.specs.Persons.{AscendsFrom, AllBelow, Ascends, has}

-- a greater number at the end
pub ascends_push : (n p : ℕ) (ps : List ℕ) → AscendsFrom n ps → AllBelow p ps → n ≤ p → AscendsFrom n (ps ++ p ∷ [])
ascends_push n p [] a b h = (h, tt)
ascends_push n p (q ∷ ps) a b h = (a.0, ascends_push (q + 1) p ps a.1 b.1 (let below = b.0 in omega arith))

above_from : (n : ℕ) (ps : List ℕ) (j : ℕ) → AscendsFrom n ps → j < length ps → n ≤ get_or ps j 0
above_from n [] j a h = absurd (omega arith)
above_from n (p ∷ ps) zero a h = a.0
above_from n (p ∷ ps) (suc j) a h = let low = a.0 in let rest = above_from (p + 1) ps j a.1 (omega arith) in omega arith

-- later places have greater numbers
pub rises : (n : ℕ) (ps : List ℕ) → AscendsFrom n ps → (i j : ℕ) → i ≤ j → j < length ps → get_or ps i 0 ≤ get_or ps j 0
rises n [] a i j h k = absurd (omega arith)
rises n (p ∷ ps) a zero zero h k = omega arith
rises n (p ∷ ps) a zero (suc j) h k = let rest = above_from (p + 1) ps j a.1 (omega arith) in omega arith
rises n (p ∷ ps) a (suc i) zero h k = absurd (omega arith)
rises n (p ∷ ps) a (suc i) (suc j) h k = rises (p + 1) ps a.1 i j (omega arith) (omega arith)

or_right : (b c : Bool) → c ≡ true → (b || c) ≡ true
or_right true c e = refl
or_right false c e = e

neither : (b c : Bool) → b ≡ false → c ≡ false → (b || c) ≡ false
neither true c d e = d
neither false c d e = e

differ : (m n : ℕ) → m ≢ n → (m == n) ≡ false
differ m n d = grind (arith, nat_tests)

has_at : (ps : List ℕ) (i p : ℕ) → i < length ps → get_or ps i 0 ≡ p → has p ps ≡ true
has_at [] i p h e = absurd (omega arith)
has_at (q ∷ ps) zero p h e = ap (λ b. b || has p ps) (eq-eqb q p e)
has_at (q ∷ ps) (suc i) p h e = or_right (q == p) (has p ps) (has_at ps i p (omega arith) e)

has_none : (ps : List ℕ) (p : ℕ) → ((k : ℕ) → k < length ps → get_or ps k 0 ≢ p) → has p ps ≡ false
has_none [] p none = refl
has_none (q ∷ ps) p none = neither (q == p) (has p ps) (differ q p (none 0 (omega arith))) (has_none ps p (λ k h. none (suc k) (omega arith)))

-- what a binary search answers is whether the number is there
pub searched_has : (ps : List ℕ) (p : ℕ) (r : Result ℕ ℕ) → Ascends ps → IsBinarySearchResult (λ q. nat_cmp q p) ps r → is_ok r ≡ has p ps
searched_has ps p (Ok i) a h =
    let found = searched ps p (Ok i) h (rises 0 ps a) in
    sym (has_at ps i p found.0 found.1)
searched_has ps p (Err i) a h =
    let found = searched ps p (Err i) h (rises 0 ps a) in
    sym (has_none ps p (λ k l e. apart ps i k p found.1 found.2 l e))
  where
    apart : (ps : List ℕ) (i k p : ℕ) → ((k : ℕ) → k < i → get_or ps k 0 < p) → ((k : ℕ) → i ≤ k → k < length ps → p < get_or ps k 0) → k < length ps → get_or ps k 0 ≡ p → ⊥
    apart ps i k p before after l e = elim (cases_lt k i) [ inl h ↦ let b = before k h in omega arith | inr h ↦ let b = after k h l in omega arith ]

-- The average of numbers, by a division that leaves no negative remainder.
use Rattle.std.proofs.Common.{◌≡◌, ℕ, zero, suc, ◌<◌, ◌/◌, ℤ, pos, negsuc, ◌+ℤ◌, ◌*ℤ◌, ◌<ℤ◌, ◌≤ℤ◌, List, length, arith, subst, sym, ap, ◌∙◌}
use Rattle.std.specs.Int.{int_div_euclid}
use Rattle.std.proofs.lemmas.Int.{ints}
use Rattle.ht_aggregate.specs.Numbers.{IsAverage, total}

-- so many times the quotient is at most the number, and so many times the next one is more
divided_within : (t : ℤ) (n : ℕ) → 0 < n → (int_div_euclid t (pos n) *ℤ pos n) ≤ℤ t
divided_within (pos a) n h = omega (arith, ints)
divided_within (negsuc a) n h = omega (arith, ints)

pub once_more : (q : ℤ) (n : ℕ) → (q +ℤ pos 1) *ℤ pos n ≡ (q *ℤ pos n) +ℤ pos n
once_more (pos k) n = omega (arith, ints)
once_more (negsuc zero) n = omega (arith, ints)
once_more (negsuc (suc k)) n =
    let more : negsuc (suc k) +ℤ pos 1 ≡ negsuc k = omega (arith, ints) in
    ap (λ q. q *ℤ pos n) more ∙ omega (arith, ints)

divided_next : (t : ℤ) (n : ℕ) → 0 < n → t <ℤ ((int_div_euclid t (pos n) +ℤ pos 1) *ℤ pos n)
divided_next (pos a) n h = omega (arith, ints)
divided_next (negsuc a) n h = rw (once_more (negsuc (a / n)) n) (omega (arith, ints))

pub average_of : (ns : List ℤ) (t q : ℤ) (n : ℕ) → t ≡ total ns → length ns ≡ n → 0 < n → q ≡ int_div_euclid t (pos n) → IsAverage ns q
average_of ns t q n sum count some is = record {
  within = subst (λ m. (q *ℤ pos m) ≤ℤ total ns) (sym count) (subst (λ s. (q *ℤ pos n) ≤ℤ s) sum (subst (λ d. (d *ℤ pos n) ≤ℤ t) (sym is) (divided_within t n some)));
  next = subst (λ m. total ns <ℤ ((q +ℤ pos 1) *ℤ pos m)) (sym count) (subst (λ s. s <ℤ ((q +ℤ pos 1) *ℤ pos n)) sum (subst (λ d. t <ℤ ((d +ℤ pos 1) *ℤ pos n)) (sym is) (divided_next t n some)));
}

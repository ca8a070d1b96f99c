-- Dues that were sorted, with one kept of each.
use Rattle.std.proofs.Common.{◌≡◌, ℕ, eqb, cond, Bool, true, false, List, [], ◌∷◌, refl, sym, ap, ◌∙◌, ◌||◌, ◌&&◌, arith}
use Rattle.std.specs.List.{dedup, dedup_from}
use Rattle.std.specs.List.Sorted.{IsSorted, IsStrictlySortedBy}
use Rattle.std.specs.Ordering.{eq_by_cmp, is_eq, nat_cmp, ordering_then}
use Rattle.std.specs.declared.cmp.Ordering.{Ordering}
use Rattle.std.specs.declared.cmp.Ordering.TheVariants.{Less, Equal, Greater}
use Rattle.std.proofs.lemmas.Bool.Decides.{nat_tests}
use Rattle.std.proofs.lemmas.List.Kept.{IsStrictlySortedBy-dedup}
use Rattle.ht_due.specs.declared.due.Due.{Due}
use Rattle.ht_due.specs.Dues.{Ascends, compare_dues, has}
use Rattle.ht_due.proofs.Order.{due_order, exact}

-- `==` of dues
abbrev pub same : Due → Due → Bool
same a b = eqb a.at.0 b.at.0 && (eqb a.task.0 b.task.0 && (eqb a.kind b.kind && eqb a.place b.place))

tie : (m n : ℕ) → eqb m n ≡ is_eq (nat_cmp m n)
tie m n = grind (arith, nat_tests)

tie_then : (a b : Ordering) → is_eq (ordering_then a b) ≡ (is_eq a && is_eq b)
tie_then Less b = refl
tie_then Equal b = refl
tie_then Greater b = refl

tie_both : (a b : Bool) (o p : Ordering) → a ≡ is_eq o → b ≡ is_eq p → (a && b) ≡ is_eq (ordering_then o p)
tie_both a b o p e f = ap (λ c. c && b) e ∙ ap (λ c. is_eq o && c) f ∙ sym (tie_then o p)

pub ties : (a b : Due) → same a b ≡ eq_by_cmp compare_dues a b
ties a b =
    let places = nat_cmp a.place b.place in
    let kinds = ordering_then (nat_cmp a.kind b.kind) places in
    let tasks = ordering_then (nat_cmp a.task.0 b.task.0) kinds in
    let kind_ties = tie_both (eqb a.kind b.kind) (eqb a.place b.place) (nat_cmp a.kind b.kind) places (tie a.kind b.kind) (tie a.place b.place) in
    let task_ties = tie_both (eqb a.task.0 b.task.0) (eqb a.kind b.kind && eqb a.place b.place) (nat_cmp a.task.0 b.task.0) kinds (tie a.task.0 b.task.0) kind_ties in
    tie_both (eqb a.at.0 b.at.0) (eqb a.task.0 b.task.0 && (eqb a.kind b.kind && eqb a.place b.place)) (nat_cmp a.at.0 b.at.0) tasks (tie a.at.0 b.at.0) task_ties

-- strictly sorted is ascending
strict_ascends : (xs : List Due) → IsStrictlySortedBy compare_dues xs → Ascends xs
unfolding IsStrictlySortedBy
strict_ascends [] up = tt
strict_ascends (x ∷ xs) up = (up.0, strict_ascends xs up.1)

pub sorted_ascends : (xs : List Due) → IsSorted compare_dues xs → Ascends (dedup same xs)
sorted_ascends xs sorted = strict_ascends (dedup same xs) (IsStrictlySortedBy-dedup due_order ties xs sorted)

twice : (a b : Bool) → (a || (a || b)) ≡ (a || b)
twice true b = refl
twice false b = refl

kept_from : (q k : Due) (xs : List Due) → has q (dedup_from same k xs) ≡ has q (k ∷ xs)
kept_from q k [] = refl
kept_from q k (x ∷ xs) = at (same x k) refl (kept_from q k xs) (kept_from q x xs)
  where
    at : (b : Bool) → same x k ≡ b → has q (dedup_from same k xs) ≡ has q (k ∷ xs) → has q (dedup_from same x xs) ≡ has q (x ∷ xs) → has q (cond b (dedup_from same k xs) (k ∷ dedup_from same x xs)) ≡ has q (k ∷ x ∷ xs)
    at true e more other =
        let tied : compare_dues x k ≡ Equal = equal (compare_dues x k) (sym (ties x k) ∙ e) in
        more ∙ sym (ap (λ (d : Due). has q (k ∷ d ∷ xs)) (exact x k tied) ∙ twice (is_eq (compare_dues q k)) (has q xs))
      where
        equal : (o : Ordering) → is_eq o ≡ true → o ≡ Equal
        equal Less h = cc
        equal Equal h = refl
        equal Greater h = cc
    at false e more other = ap (λ b. is_eq (compare_dues q k) || b) other

pub has_dedup : (q : Due) (xs : List Due) → has q (dedup same xs) ≡ has q xs
has_dedup q [] = refl
has_dedup q (x ∷ xs) = kept_from q x xs

-- The order of dues.
use Rattle.std.proofs.Common.{◌≡◌, ℕ, List, [], ◌∷◌, refl, sym, ap, ◌∙◌}
use Rattle.std.specs.List.{AllByRecursion}
use Rattle.std.specs.Cmp.{IsTotalOrder}
use Rattle.std.specs.Ordering.{nat_cmp, ordering_then, ordering_reverse}
use Rattle.std.specs.declared.cmp.Ordering.{Ordering}
use Rattle.std.specs.declared.cmp.Ordering.TheVariants.{Less, Equal, Greater}
use Rattle.std.proofs.lemmas.Cmp.{nat_cmp_total, on_total, then_total, tied_itself}
use Rattle.std.proofs.lemmas.Map.Lookups.{exact_unsigned}
use Rattle.ht_due.specs.declared.due.Due.{Due}
use Rattle.ht_due.specs.Dues.{compare_dues}

pub due_order : IsTotalOrder compare_dues
due_order =
    then_total (on_total (λ (d : Due). d.at.0) nat_cmp_total)
    (then_total (on_total (λ (d : Due). d.task.0) nat_cmp_total)
    (then_total (on_total (λ (d : Due). d.kind) nat_cmp_total) (on_total (λ (d : Due). d.place) nat_cmp_total)))

both_equal : (a b : Ordering) → ordering_then a b ≡ Equal → (a ≡ Equal) × (b ≡ Equal)
both_equal Less b e = absurd (no e)
  where
    no : Less ≡ Equal → ⊥
    no e = cc
both_equal Equal b e = (refl, e)
both_equal Greater b e = absurd (no e)
  where
    no : Greater ≡ Equal → ⊥
    no e = cc

abbrev due_of : ℕ → ℕ → ℕ → ℕ → Due
due_of m t k p = record { at = record { 0 = m }; task = record { 0 = t }; kind = k; place = p }

whole : (m t k p m' t' k' p' : ℕ) → m ≡ m' → t ≡ t' → k ≡ k' → p ≡ p' → due_of m t k p ≡ due_of m' t' k' p'
whole m t k p m' t' k' p' e f g h = ap (λ x. due_of x t k p) e ∙ ap (λ x. due_of m' x k p) f ∙ ap (λ x. due_of m' t' x p) g ∙ ap (λ x. due_of m' t' k' x) h

pub exact : (a b : Due) → compare_dues a b ≡ Equal → a ≡ b
exact a b e =
    let one = both_equal (nat_cmp a.at.0 b.at.0) (ordering_then (nat_cmp a.task.0 b.task.0) (ordering_then (nat_cmp a.kind b.kind) (nat_cmp a.place b.place))) e in
    let two = both_equal (nat_cmp a.task.0 b.task.0) (ordering_then (nat_cmp a.kind b.kind) (nat_cmp a.place b.place)) one.1 in
    let three = both_equal (nat_cmp a.kind b.kind) (nat_cmp a.place b.place) two.1 in
    whole a.at.0 a.task.0 a.kind a.place b.at.0 b.task.0 b.kind b.place (exact_unsigned a.at.0 b.at.0 one.0) (exact_unsigned a.task.0 b.task.0 two.0) (exact_unsigned a.kind b.kind three.0) (exact_unsigned a.place b.place three.1)

pub itself : (a : Due) → compare_dues a a ≡ Equal
itself a = tied_itself due_order a

pub flip : (a b : Due) (o : Ordering) → compare_dues a b ≡ o → compare_dues b a ≡ ordering_reverse o
flip a b o e = due_order.antisymm b a ∙ ap ordering_reverse e

pub equal_is : (a b : Due) → a ≡ b → compare_dues a b ≡ Equal
equal_is a b e = ap (λ (x : Due). compare_dues a x) (sym e) ∙ itself a

-- it comes before each of these
abbrev pub Before : Due → List Due → Type 0
Before d xs = AllByRecursion (λ x. compare_dues d x ≡ Less) xs

pub before_more : (x y : Due) (xs : List Due) → compare_dues x y ≡ Less → Before y xs → Before x xs
before_more x y [] l b = tt
before_more x y (z ∷ xs) l b = (due_order.trans x y z l b.0, before_more x y xs l b.1)

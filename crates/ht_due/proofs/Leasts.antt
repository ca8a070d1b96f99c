-- The least due of an ascending list, and the least after another.
use Rattle.std.proofs.Common.{◌≡◌, inl, inr, true, false, List, [], ◌∷◌, Some, None, refl, sym, ap, ◌∙◌}
use Rattle.std.specs.Prelude.{slice_get}
use Rattle.std.specs.Ordering.{match_ordering}
use Rattle.std.specs.declared.cmp.Ordering.{Ordering}
use Rattle.std.specs.declared.cmp.Ordering.TheVariants.{Less, Equal, Greater}
use Rattle.ht_due.specs.declared.due.Due.{Due}
use Rattle.ht_due.specs.Dues.{Ascends, compare_dues, has, next_after}
use Rattle.ht_due.proofs.Members.{has_itself, has_more, split}
use Rattle.ht_due.proofs.Order.{Before, flip, itself}

before_has : (x q : Due) (xs : List Due) → Before x xs → has q xs ≡ true → compare_dues x q ≡ Less
before_has x q [] b h = absurd (no h)
  where
    no : false ≡ true → ⊥
    no e = cc
before_has x q (y ∷ ys) b h = elim (split q y ys h) [
  | inl e ↦ ap (λ (d : Due). compare_dues x d) e ∙ b.0
  | inr t ↦ before_has x q ys b.1 t
]

-- none that is there comes before the first
pub first_least : (x q : Due) (xs : List Due) → Ascends (x ∷ xs) → has q (x ∷ xs) ≡ true → compare_dues q x ≡ Less → ⊥
first_least x q xs up h less = elim (split q x xs h) [
  | inl e ↦ let same : compare_dues q x ≡ Equal = ap (λ (d : Due). compare_dues d x) e ∙ itself x in absurd cc
  | inr t ↦ let later : compare_dues q x ≡ Greater = flip x q Less (before_has x q xs up.0 t) in absurd cc
]

pub least_some : (xs : List Due) (x q : Due) → Ascends xs → slice_get xs 0 ≡ Some x → has q xs ≡ true → compare_dues q x ≡ Less → ⊥
least_some [] x q up at h less = cc
least_some (y ∷ ys) x q up at h less = let same : y ≡ x = cc in first_least y q ys up h (ap (λ (d : Due). compare_dues q d) same ∙ less)

pub least_none : (xs : List Due) (q : Due) → slice_get xs 0 ≡ None → has q xs ≡ false
least_none [] q at = refl
least_none (y ∷ ys) q at = cc

pub record IsNext (due next : Due) (xs : List Due) : Type 0 where
  pub there : has next xs ≡ true
  pub after : compare_dues due next ≡ Less
  pub least : (q : Due) → has q xs ≡ true → compare_dues due q ≡ Less → compare_dues q next ≡ Less → ⊥

pub next_some : (xs : List Due) (due next : Due) → Ascends xs → next_after due xs ≡ Some next → IsNext due next xs
next_some [] due next up is = absurd (no is)
  where
    no : None ≡ Some next → ⊥
    no e = cc
next_some (x ∷ xs) due next up is = at (compare_dues due x) refl is (λ t. next_some xs due next up.1 t)
  where
    later : (compare_dues due x ≡ Less → ⊥) → IsNext due next xs → IsNext due next (x ∷ xs)
    later apart rest = record {
      there = has_more next x xs rest.there;
      after = rest.after;
      least = λ q h less. elim (split q x xs h) [
        | inl e ↦ absurd (apart (ap (λ (d : Due). compare_dues due d) (sym e) ∙ less))
        | inr t ↦ rest.least q t less
      ];
    }

    at : (o : Ordering) → compare_dues due x ≡ o → match_ordering o (Some x) (next_after due xs) (next_after due xs) ≡ Some next → (next_after due xs ≡ Some next → IsNext due next xs) → IsNext due next (x ∷ xs)
    at Less e t more =
        let same : x ≡ next = cc in
        record {
          there = ap (λ (d : Due). has d (x ∷ xs)) (sym same) ∙ has_itself x xs;
          after = ap (λ (d : Due). compare_dues due d) (sym same) ∙ e;
          least = λ q h less before. first_least x q xs up h (ap (λ (d : Due). compare_dues q d) same ∙ before);
        }
    at Equal e t more = later (λ less. cc) (more t)
    at Greater e t more = later (λ less. cc) (more t)

pub next_none : (xs : List Due) (due q : Due) → next_after due xs ≡ None → has q xs ≡ true → compare_dues due q ≡ Less → ⊥
next_none [] due q is h less = cc
next_none (x ∷ xs) due q is h less = at (compare_dues due x) refl is (λ t u. next_none xs due q t u less)
  where
    later : (compare_dues due x ≡ Less → ⊥) → (has q xs ≡ true → ⊥) → ⊥
    later apart rest = elim (split q x xs h) [
      | inl e ↦ apart (ap (λ (d : Due). compare_dues due d) (sym e) ∙ less)
      | inr t ↦ rest t
    ]

    at : (o : Ordering) → compare_dues due x ≡ o → match_ordering o (Some x) (next_after due xs) (next_after due xs) ≡ None → (next_after due xs ≡ None → has q xs ≡ true → ⊥) → ⊥
    at Less e t more = cc
    at Equal e t more = later (λ l. cc) (more t)
    at Greater e t more = later (λ l. cc) (more t)

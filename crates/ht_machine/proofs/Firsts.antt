-- Which dues are ahead, and the first of them.
use Rattle.std.proofs.Common.{◌≡◌, ◌<◌, ◌≤◌, ◌||◌, ◌==◌, ℕ, Bool, true, false, List, [], ◌∷◌, Option, None, Some, refl, sym, ap, ◌∙◌, inl, inr, ◌⊎◌, arith, ltb-true, ltb-false}
use Rattle.std.specs.Prelude.{nat_lt, slice_get}
use Rattle.std.specs.Ordering.{is_eq, is_lt, match_ordering, nat_cmp, ordering_reverse, ordering_then}
use Rattle.std.specs.declared.cmp.Ordering.{Ordering}
use Rattle.std.specs.declared.cmp.Ordering.TheVariants.{Less, Equal, Greater}
use Rattle.std.proofs.lemmas.Bool.{cases_eq}
use Rattle.std.proofs.lemmas.Cmp.{nat_cmp_total, tied_itself}
use Rattle.ht_due.specs.declared.due.Due.{Due}
use Rattle.ht_due.specs.Dues.{Ascends, compare_dues, has, next_after, lesser}
use Rattle.ht_due.proofs.PublicLaws.{due_order, exact, itself, least_none, least_some, next_none, next_some}
use Rattle.ht_machine.specs.Ahead.{IsFirstAhead, in_either, in_list}

-- ---- the order of dues

less_than : (m n : ℕ) → m < n → nat_cmp m n ≡ Less
less_than m n low = at (nat_lt m n) refl
  where
    at : (b : Bool) → nat_lt m n ≡ b → nat_cmp m n ≡ Less
    at true e = rw e refl
    at false e = let high = ltb-false m n e in absurd (omega arith)

pub before_is : (m n : ℕ) → true ≡ is_lt (nat_cmp m n) → m < n
before_is m n h = at (nat_lt m n) (m == n) refl refl
  where
    at : (b c : Bool) → nat_lt m n ≡ b → (m == n) ≡ c → m < n
    at true c e f = ltb-true m n e
    at false true e f = let no_more : is_lt (nat_cmp m n) ≡ false = rw (e, f) refl in cc
    at false false e f = let no_more : is_lt (nat_cmp m n) ≡ false = rw (e, f) refl in cc

pub not_before : (m n : ℕ) → false ≡ is_lt (nat_cmp m n) → n ≤ m
not_before m n h = at (nat_lt m n) refl
  where
    at : (b : Bool) → nat_lt m n ≡ b → n ≤ m
    at true e = let before : is_lt (nat_cmp m n) ≡ true = rw e refl in cc
    at false e = ltb-false m n e

-- one that doesn't come before another is no earlier
pub no_earlier : (a b : Due) → (compare_dues a b ≡ Less → ⊥) → b.at.0 ≤ a.at.0
no_earlier a b apart = at (nat_lt a.at.0 b.at.0) refl
  where
    rest : Ordering
    rest = ordering_then (nat_cmp a.task.0 b.task.0) (ordering_then (nat_cmp a.kind b.kind) (nat_cmp a.place b.place))

    at : (x : Bool) → nat_lt a.at.0 b.at.0 ≡ x → b.at.0 ≤ a.at.0
    at true e = absurd (apart (ap (λ o. ordering_then o rest) (less_than a.at.0 b.at.0 (ltb-true a.at.0 b.at.0 e))))
    at false e = ltb-false a.at.0 b.at.0 e

-- a due of a later task that is no earlier comes behind
pub later_task : (a b : Due) → a.at.0 ≤ b.at.0 → a.task.0 < b.task.0 → compare_dues a b ≡ Less
later_task a b moment task = elim (cases_eq a.at.0 b.at.0) [
  | inl e ↦
      ap (λ (n : ℕ). ordering_then (nat_cmp n b.at.0) rest) e
      ∙ ap (λ o. ordering_then o rest) (equal b.at.0)
      ∙ ap (λ o. ordering_then o others) (less_than a.task.0 b.task.0 task)
  | inr d ↦ ap (λ o. ordering_then o rest) (less_than a.at.0 b.at.0 (omega (arith, moment, d)))
]
  where
    others : Ordering
    others = ordering_then (nat_cmp a.kind b.kind) (nat_cmp a.place b.place)

    rest : Ordering
    rest = ordering_then (nat_cmp a.task.0 b.task.0) others

    equal : (n : ℕ) → nat_cmp n n ≡ Equal
    equal n = tied_itself nat_cmp_total n

-- of two that differ, the one that doesn't come first comes behind
pub comes_behind : (a b : Due) → (compare_dues b a ≡ Less → ⊥) → (b ≡ a → ⊥) → compare_dues a b ≡ Less
comes_behind a b late apart = at (compare_dues a b) refl
  where
    at : (o : Ordering) → compare_dues a b ≡ o → compare_dues a b ≡ Less
    at Less e = e
    at Equal e = absurd (apart (sym (exact a b e)))
    at Greater e = absurd (late (due_order.antisymm b a ∙ ap ordering_reverse e))

-- ---- the first that is ahead

first_there : (xs : List Due) (x : Due) → slice_get xs 0 ≡ Some x → has x xs ≡ true
first_there [] x at = cc
first_there (y ∷ ys) x at = let same : y ≡ x = cc in ap (λ (d : Due). is_eq (compare_dues d y) || has d ys) (sym same) ∙ ap (λ o. is_eq o || has y ys) (itself y)

pub by_least : (xs : List Due) (r : Option Due) → Ascends xs → r ≡ slice_get xs 0 → IsFirstAhead (in_list xs) None r
by_least xs None up is = λ due there on. let none = least_none xs due (sym is) in absurd cc
by_least xs (Some first) up is = (first_there xs first (sym is), tt, λ due there on before. least_some xs first due up (sym is) there before)

pub by_next : (xs : List Due) (passed : Due) (r : Option Due) → Ascends xs → r ≡ next_after passed xs → IsFirstAhead (in_list xs) (Some passed) r
by_next xs passed None up is = λ due there on. next_none xs passed due (sym is) there on
by_next xs passed (Some first) up is =
    let n = next_some xs passed first up (sym is) in
    (n.there, n.after, λ due there on before. n.least due there on before)

-- and of two lists
module _ (xs ys : List Due) (passed : Option Due) where
  in_one : (due : Due) → in_either xs ys due ≡ true → (has due xs ≡ true) ⊎ (has due ys ≡ true)
  in_one due h = at (has due xs) refl
    where
      at : (b : Bool) → has due xs ≡ b → (has due xs ≡ true) ⊎ (has due ys ≡ true)
      at true e = inl e
      at false e = inr (ap (λ b. b || has due ys) (sym e) ∙ h)

  in_first : (due : Due) → has due xs ≡ true → in_either xs ys due ≡ true
  in_first due h = ap (λ b. b || has due ys) h

  in_second : (due : Due) → has due ys ≡ true → in_either xs ys due ≡ true
  in_second due h = ap (λ b. has due xs || b) h ∙ always (has due xs)
    where
      always : (b : Bool) → (b || true) ≡ true
      always true = refl
      always false = refl

  pub by_lesser : (a b : Option Due) → IsFirstAhead (in_list xs) passed a → IsFirstAhead (in_list ys) passed b → IsFirstAhead (in_either xs ys) passed (lesser a b)
  by_lesser None None f g = λ due h on. elim (in_one due h) [ inl t ↦ f due t on | inr t ↦ g due t on ]
  by_lesser None (Some b) f g = (in_second b g.0, g.1, λ due h on before. elim (in_one due h) [ inl t ↦ f due t on | inr t ↦ g.2 due t on before ])
  by_lesser (Some a) None f g = (in_first a f.0, f.1, λ due h on before. elim (in_one due h) [ inl t ↦ f.2 due t on before | inr t ↦ g due t on ])
  by_lesser (Some a) (Some b) f g = at (compare_dues a b) refl
    where
      P : Option Due → Type 0
      P r = IsFirstAhead (in_either xs ys) passed r

      -- what isn't before the one isn't before the other, which isn't behind it
      late : (p q due : Due) → (compare_dues q p ≡ Less → ⊥) → (compare_dues due q ≡ Less → ⊥) → compare_dues due p ≡ Less → ⊥
      late p q due apart behind before = elim (comes p q apart) [
        | inl less ↦ behind (due_order.trans due p q before less)
        | inr same ↦ behind (ap (λ (d : Due). compare_dues due d) (sym same) ∙ before)
      ]
        where
          comes : (p q : Due) → (compare_dues q p ≡ Less → ⊥) → (compare_dues p q ≡ Less) ⊎ (p ≡ q)
          comes p q apart = go (compare_dues p q) refl
            where
              go : (o : Ordering) → compare_dues p q ≡ o → (compare_dues p q ≡ Less) ⊎ (p ≡ q)
              go Less e = inl e
              go Equal e = inr (exact p q e)
              go Greater e = absurd (apart (due_order.antisymm q p ∙ ap ordering_reverse e))

      at : (o : Ordering) → compare_dues a b ≡ o → P (match_ordering (compare_dues a b) (Some a) (Some a) (Some b))
      at Less e = rw e (in_first a f.0, f.1, λ due h on before. elim (in_one due h) [ inl t ↦ f.2 due t on before | inr t ↦ late a b due (λ x. let y = due_order.antisymm a b ∙ ap ordering_reverse x in absurd cc) (λ x. g.2 due t on x) before ])
      at Equal e = rw e (in_first a f.0, f.1, λ due h on before. elim (in_one due h) [ inl t ↦ f.2 due t on before | inr t ↦ late a b due (λ x. let y = due_order.antisymm a b ∙ ap ordering_reverse x in absurd cc) (λ x. g.2 due t on x) before ])
      at Greater e = rw e (in_second b g.0, g.1, λ due h on before. elim (in_one due h) [ inl t ↦ late b a due (λ x. absurd cc) (λ x. f.2 due t on x) before | inr t ↦ g.2 due t on before ])

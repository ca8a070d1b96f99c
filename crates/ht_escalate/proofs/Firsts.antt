-- The first of what is due, by the dues of the tables and those of the rows that a plan puts.
use Rattle.std.proofs.Common.{◌≡◌, ◌⊎◌, ◌≤◌, ◌<◌, ◌&&◌, ◌||◌, ℕ, inl, inr, Bool, true, false, if◌then◌else◌, not, List, [], ◌∷◌, filter, length, Option, Some, None, arith, refl, sym, ap, subst, ◌∙◌}
use Rattle.std.specs.Prelude.{nat_le, slice_get}
use Rattle.std.specs.List.{AllByRecursion}
use Rattle.std.specs.Ordering.{is_eq, is_lt, match_ordering, nat_cmp, ordering_reverse, ordering_then}
use Rattle.std.proofs.lemmas.Bool.{and_parts, le-leb, leb-true}
use Rattle.std.proofs.lemmas.Cmp.{ranked}
use Rattle.std.proofs.lemmas.Map.Lookups.{exact_unsigned}
use Rattle.std.specs.declared.cmp.Ordering.{Ordering}
use Rattle.std.specs.declared.cmp.Ordering.TheVariants.{Less, Equal, Greater}
use Rattle.ht_due.specs.declared.due.Due.{Due}
use Rattle.ht_due.specs.Dues.{Ascends, compare_dues, has, next_after, lesser}
use Rattle.ht_due.proofs.PublicLaws.{due_order, exact, itself, next_none, next_some, IsLeast, first_is_least, one_least}
use Rattle.ht_escalate.specs.Kept.{IsFirstKept, IsStaying, is_changed}
use Rattle.ht_tree.specs.Plans.{IsPlanOf, PlanOf, planned}
use Rattle.ht_tree.specs.RowDues.{all_dues, changed_dues, due_by, first_due}
use Rattle.ht_tree.specs.Soundness.{IsSound}
use Rattle.ht_tree.specs.Tables.{TablesOf}
use Rattle.ht_tree.proofs.PublicLaws.{all_dues_ascend, changed_ascend, has_planned, of_changed}

-- ---- the order

flip : (a b : Due) (o : Ordering) → compare_dues a b ≡ o → compare_dues b a ≡ ordering_reverse o
flip a b o e = due_order.antisymm b a ∙ ap ordering_reverse e

-- what comes before another is due no later
no_later : (a b : Due) → compare_dues a b ≡ Less → a.at.0 ≤ b.at.0
no_later a b e = go (nat_cmp a.at.0 b.at.0) refl e
  where
    rest : Ordering
    rest = ordering_then (nat_cmp a.task.0 b.task.0) (ordering_then (nat_cmp a.kind b.kind) (nat_cmp a.place b.place))

    go : (o : Ordering) → nat_cmp a.at.0 b.at.0 ≡ o → ordering_then o rest ≡ Less → a.at.0 ≤ b.at.0
    go Less is e = let low : a.at.0 < b.at.0 = ranked a.at.0 b.at.0 Less (sym is) in omega arith
    go Equal is e = let same = exact_unsigned a.at.0 b.at.0 is in omega arith
    go Greater is e = cc

-- one before which the other doesn't come is due no later
not_after : (a b : Due) → (compare_dues b a ≡ Less → ⊥) → a.at.0 ≤ b.at.0
not_after a b not = go (compare_dues b a) refl
  where
    go : (o : Ordering) → compare_dues b a ≡ o → a.at.0 ≤ b.at.0
    go Less e = absurd (not e)
    go Equal e = let same = ap (λ (d : Due). d.at.0) (exact b a e) in omega arith
    go Greater e = no_later a b (flip b a Greater e)

-- ---- along the dues of the tables

-- every due before the next is of a task that changes
abbrev pub IsWalked : PlanOf → List Due → Option Due → Type 0
IsWalked p dues None = (q : Due) → has q dues ≡ true → is_changed p q ≡ true
IsWalked p dues (Some due) = (has due dues ≡ true) × ((q : Due) → has q dues ≡ true → compare_dues q due ≡ Less → is_changed p q ≡ true)

pub walk_begins : (p : PlanOf) (dues : List Due) → Ascends dues → IsWalked p dues (slice_get dues 0)
walk_begins p dues up = go (slice_get dues 0) (first_is_least dues up)
  where
    go : (o : Option Due) → IsLeast dues o → IsWalked p dues o
    go None least = λ q there. absurd (least q there)
    go (Some due) least = (least.0, λ q there less. absurd (least.1 q there less))

pub walk_on : (p : PlanOf) (dues : List Due) (due : Due) → Ascends dues → IsWalked p dues (Some due) → is_changed p due ≡ true → IsWalked p dues (next_after due dues)
walk_on p dues due up walked changed = go (next_after due dues) refl
  where
    passed : (q : Due) → has q dues ≡ true → (compare_dues due q ≡ Less → ⊥) → is_changed p q ≡ true
    passed q there not = at (compare_dues q due) refl
      where
        at : (o : Ordering) → compare_dues q due ≡ o → is_changed p q ≡ true
        at Less e = walked.1 q there e
        at Equal e = ap (is_changed p) (exact q due e) ∙ changed
        at Greater e = absurd (not (flip q due Greater e))

    go : (o : Option Due) → next_after due dues ≡ o → IsWalked p dues o
    go None is = λ q there. passed q there (λ after. next_none dues due q is there after)
    go (Some next) is = let n = next_some dues due next up is in (n.there, λ q there less. passed q there (λ after. n.least q there after less))

-- ---- how many are left

-- from the next on
abbrev pub is_left : Option Due → Due → Bool
is_left None q = false
is_left (Some due) q = not (is_lt (compare_dues q due))

abbrev pub left : Option Due → List Due → ℕ
left next dues = length (filter (is_left next) dues)

no_more : (f g : Due → Bool) (xs : List Due) → ((q : Due) → f q ≡ true → g q ≡ true) → length (filter f xs) ≤ length (filter g xs)
no_more f g [] each = omega arith
no_more f g (x ∷ xs) each = go (f x) refl (g x) refl (no_more f g xs each)
  where
    go : (a : Bool) → f x ≡ a → (b : Bool) → g x ≡ b → length (filter f xs) ≤ length (filter g xs) → length (if a then x ∷ filter f xs else filter f xs) ≤ length (if b then x ∷ filter g xs else filter g xs)
    go true e true h rest = omega arith
    go true e false h rest = let both = each x e in cc
    go false e true h rest = omega arith
    go false e false h rest = rest

fewer : (f g : Due → Bool) (xs : List Due) (d : Due) → ((q : Due) → f q ≡ true → g q ≡ true) → has d xs ≡ true → f d ≡ false → g d ≡ true → length (filter f xs) < length (filter g xs)
fewer f g [] d each there out in_ = cc
fewer f g (x ∷ xs) d each there out in_ = here (compare_dues d x) refl (λ t. fewer f g xs d each t out in_)
  where
    at : (a : Bool) → f x ≡ a → (b : Bool) → g x ≡ b → length (filter f xs) < length (filter g xs) → length (if a then x ∷ filter f xs else filter f xs) < length (if b then x ∷ filter g xs else filter g xs)
    at true e true h rest = omega arith
    at true e false h rest = let both = each x e in cc
    at false e true h rest = omega arith
    at false e false h rest = rest

    rest_has : (o : Ordering) → compare_dues d x ≡ o → is_eq o ≡ false → has d xs ≡ true
    rest_has o e no_eq = ap (λ b. b || has d xs) (sym no_eq) ∙ ap (λ o. is_eq o || has d xs) (sym e) ∙ there

    here : (o : Ordering) → compare_dues d x ≡ o → (has d xs ≡ true → length (filter f xs) < length (filter g xs)) → length (filter f (x ∷ xs)) < length (filter g (x ∷ xs))
    here Less e rest = at (f x) refl (g x) refl (rest (rest_has Less e refl))
    here Greater e rest = at (f x) refl (g x) refl (rest (rest_has Greater e refl))
    here Equal e rest =
        let same = exact d x e in
        let f_is : f x ≡ false = ap f (sym same) ∙ out in
        let g_is : g x ≡ true = ap g (sym same) ∙ in_ in
        let others = no_more f g xs each in
        rw (f_is, g_is) (omega arith)

pub fewer_left : (dues : List Due) (due : Due) → Ascends dues → has due dues ≡ true → left (next_after due dues) dues < left (Some due) dues
fewer_left dues due up there = go (next_after due dues) refl
  where
    own : is_left (Some due) due ≡ true
    own = ap (λ o. not (is_lt o)) (itself due)

    go : (o : Option Due) → next_after due dues ≡ o → left o dues < left (Some due) dues
    go None is = fewer (is_left None) (is_left (Some due)) dues due (λ q e. cc) there refl own
    go (Some next) is =
        let n = next_some dues due next up is in
        fewer (is_left (Some next)) (is_left (Some due)) dues due (λ q e. later q (compare_dues q due) refl e n.after) there (ap (λ o. not (is_lt o)) n.after) own
      where
        later : (q : Due) (o : Ordering) → compare_dues q due ≡ o → not (is_lt (compare_dues q next)) ≡ true → compare_dues due next ≡ Less → not (is_lt (compare_dues q due)) ≡ true
        later q Less e h after = let low = due_order.trans q due next e after in let not_low : not (is_lt (compare_dues q next)) ≡ false = ap (λ o. not (is_lt o)) low in cc
        later q Equal e h after = ap (λ o. not (is_lt o)) e
        later q Greater e h after = ap (λ o. not (is_lt o)) e

-- ---- where the walk ends

module _ (t : TablesOf) (p : PlanOf) (by : ℕ) (dues : List Due) (are : dues ≡ all_dues t) where
  in_dues : (q : Due) → IsStaying t p by q → has q dues ≡ true
  in_dues q kept = ap (has q) are ∙ kept.there

  pub none_left : IsWalked p dues None → IsFirstKept t p by None
  none_left walked q kept = let changed = walked q (in_dues q kept) in let stays = kept.stays in cc

  pub none_soon : (due : Due) → IsWalked p dues (Some due) → by < due.at.0 → IsFirstKept t p by None
  none_soon due walked late q kept = go (compare_dues q due) refl
    where
      go : (o : Ordering) → compare_dues q due ≡ o → ⊥
      go Less e = let changed = walked.1 q (in_dues q kept) e in let stays = kept.stays in cc
      go Equal e = let same = ap (λ (d : Due). d.at.0) (exact q due e) in let soon = kept.soon in omega arith
      go Greater e = let low = no_later due q (flip q due Greater e) in let soon = kept.soon in omega arith

  pub one_kept : (due : Due) → IsWalked p dues (Some due) → due.at.0 ≤ by → is_changed p due ≡ false → IsFirstKept t p by (Some due)
  one_kept due walked soon stays = (
    record { there = sym (ap (has due) are) ∙ walked.0; stays = stays; soon = soon },
    λ q kept less. (let changed = walked.1 q (in_dues q kept) less in let other = kept.stays in cc),
  )

-- ---- the lesser of two

abbrev IsLeastOf : (Due → Type 0) → Option Due → Type 0
IsLeastOf P (Some due) = P due × ((q : Due) → P q → compare_dues q due ≡ Less → ⊥)
IsLeastOf P None = (q : Due) → P q → ⊥

module _ (P Q : Due → Type 0) where
  lesser_of : (a b : Option Due) → IsLeastOf P a → IsLeastOf Q b → IsLeastOf (λ q. P q ⊎ Q q) (lesser a b)
  lesser_of None None x y = λ q one. elim one [ inl first ↦ x q first | inr second ↦ y q second ]
  lesser_of None (Some b) x y = (inr y.0, λ q one less. elim one [ inl first ↦ x q first | inr second ↦ y.1 q second less ])
  lesser_of (Some a) None x y = (inl x.0, λ q one less. elim one [ inl first ↦ x.1 q first less | inr second ↦ y q second ])
  lesser_of (Some a) (Some b) x y = go (compare_dues a b) refl
    where
      first_is : ((q : Due) → compare_dues q a ≡ Less → compare_dues q b ≡ Less) → IsLeastOf (λ q. P q ⊎ Q q) (Some a)
      first_is low = (inl x.0, λ q one less. elim one [ inl first ↦ x.1 q first less | inr second ↦ y.1 q second (low q less) ])

      go : (o : Ordering) → compare_dues a b ≡ o → IsLeastOf (λ q. P q ⊎ Q q) (match_ordering o (Some a) (Some a) (Some b))
      go Less e = first_is (λ q less. due_order.trans q a b less e)
      go Equal e = first_is (λ q less. ap (λ (d : Due). compare_dues q d) (sym (exact a b e)) ∙ less)
      go Greater e = (inr y.0, λ q one less. elim one [ inl first ↦ x.1 q first (due_order.trans q b a less (flip a b Greater e)) | inr second ↦ y.1 q second less ])

-- ---- of what is due by a moment

pub has_filter : (test : Due → Bool) (q : Due) (xs : List Due) → has q (filter test xs) ≡ (has q xs && test q)
has_filter test q [] = refl
has_filter test q (x ∷ xs) = go (test x) refl (compare_dues q x) refl (has_filter test q xs)
  where
    both : (a b : Bool) → (a && b) ≡ (b && a)
    both true true = refl
    both true false = refl
    both false true = refl
    both false false = refl

    itself_out : (a : Bool) → (a && false) ≡ false
    itself_out true = refl
    itself_out false = refl

    go : (b : Bool) → test x ≡ b → (o : Ordering) → compare_dues q x ≡ o → has q (filter test xs) ≡ (has q xs && test q) → has q (if b then x ∷ filter test xs else filter test xs) ≡ ((is_eq (compare_dues q x) || has q xs) && test q)
    go true e Less is rest = rw is rest
    go true e Greater is rest = rw is rest
    go true e Equal is rest = let passes : test q ≡ true = ap test (exact q x is) ∙ e in rw (is, passes) refl
    go false e Less is rest = rw is rest
    go false e Greater is rest = rw is rest
    go false e Equal is rest = let fails : test q ≡ false = ap test (exact q x is) ∙ e in rw (is, fails) (rest ∙ ap (λ b. has q xs && b) fails ∙ itself_out (has q xs))

pub ascends_filter : (test : Due → Bool) (xs : List Due) → Ascends xs → Ascends (filter test xs)
ascends_filter test [] up = tt
ascends_filter test (x ∷ xs) up = go (test x) (ascends_filter test xs up.1)
  where
    behind : (ys : List Due) → AllByRecursion (λ y. compare_dues x y ≡ Less) ys → AllByRecursion (λ y. compare_dues x y ≡ Less) (filter test ys)
    behind [] all = tt
    behind (y ∷ ys) all = at (test y) (behind ys all.1)
      where
        at : (b : Bool) → AllByRecursion (λ y. compare_dues x y ≡ Less) (filter test ys) → AllByRecursion (λ y. compare_dues x y ≡ Less) (if b then y ∷ filter test ys else filter test ys)
        at true rest = (all.0, rest)
        at false rest = rest

    go : (b : Bool) → Ascends (filter test xs) → Ascends (if b then x ∷ filter test xs else filter test xs)
    go true rest = (behind xs up.0, rest)
    go false rest = rest

module _ (t : TablesOf) (p : PlanOf) (by : ℕ) (fit : IsPlanOf t p) (sound : IsSound t) where
  abbrev u : TablesOf
  u = planned t p

  abbrev news : List Due
  news = changed_dues t.models u.rows (p.changes).rows

  abbrev IsOne : Due → Type 0
  IsOne q = IsStaying t p by q ⊎ (has q news ≡ true)

  -- a due by then is of a task that stays, or of one that changes
  due_one : (q : Due) → has q (due_by u by) ≡ true → IsOne q × (q.at.0 ≤ by)
  due_one q there = go (is_changed p q) refl
    where
      both : (has q (all_dues u) ≡ true) × (nat_le q.at.0 by ≡ true)
      both = and_parts (has q (all_dues u)) (nat_le q.at.0 by) (sym (has_filter (λ (d : Due). nat_le d.at.0 by) q (all_dues u)) ∙ there)

      soon : q.at.0 ≤ by
      soon = leb-true q.at.0 by both.1

      go : (b : Bool) → is_changed p q ≡ b → IsOne q × (q.at.0 ≤ by)
      go true e = (inr (ap (λ b. if b then has q news else has q (all_dues t)) (sym e) ∙ sym (has_planned t p q fit sound) ∙ both.0), soon)
      go false e = (inl (record { there = ap (λ b. if b then has q news else has q (all_dues t)) (sym e) ∙ sym (has_planned t p q fit sound) ∙ both.0; stays = e; soon = soon }), soon)

  -- and the other way round
  one_due : (q : Due) → IsOne q → q.at.0 ≤ by → has q (due_by u by) ≡ true
  one_due q one soon = has_filter (λ (d : Due). nat_le d.at.0 by) q (all_dues u) ∙ ap (λ b. b && nat_le q.at.0 by) there ∙ le-leb q.at.0 by soon
    where
      there : has q (all_dues u) ≡ true
      there = elim one [
        | inl kept ↦ has_planned t p q fit sound ∙ ap (λ b. if b then has q news else has q (all_dues t)) kept.stays ∙ kept.there
        | inr new ↦ has_planned t p q fit sound ∙ ap (λ b. if b then has q news else has q (all_dues t)) (of_changed t p q fit sound new) ∙ new
      ]

  is_first : (o : Option Due) → IsLeast (due_by u by) o → o ≡ first_due u by
  is_first o least = one_least (due_by u by) o (first_due u by) least (first_is_least (due_by u by) (ascends_filter (λ (d : Due). nat_le d.at.0 by) (all_dues u) (all_dues_ascend u)))

  module _ (kept changed : Option Due) (first : IsFirstKept t p by kept) (least : changed ≡ slice_get news 0) where
    of_kept : (o : Option Due) → IsFirstKept t p by o → IsLeastOf (IsStaying t p by) o
    of_kept None first = first
    of_kept (Some due) first = first

    of_news : (o : Option Due) → IsLeast news o → IsLeastOf (λ q. has q news ≡ true) o
    of_news None least = least
    of_news (Some due) least = least

    least_one : IsLeastOf IsOne (lesser kept changed)
    least_one =
        let L : Option Due → Type 0 = λ o. IsLeast news o in
        lesser_of (IsStaying t p by) (λ q. has q news ≡ true) kept changed (of_kept kept first) (of_news changed (subst L (sym least) (first_is_least news (changed_ascend t.models u.rows (p.changes).rows))))

    pub first_none : lesser kept changed ≡ None → None ≡ first_due u by
    first_none is =
        let least = subst (IsLeastOf IsOne) is least_one in
        is_first None (λ q there. least q (due_one q there).0)

    pub first_late : (due : Due) → lesser kept changed ≡ Some due → by < due.at.0 → None ≡ first_due u by
    first_late due is late =
        let least = subst (IsLeastOf IsOne) is least_one in
        is_first None (λ q there. (let one = due_one q there in let low = not_after due q (least.1 q one.0) in let soon = one.1 in omega arith))

    pub first_soon : (due : Due) → lesser kept changed ≡ Some due → due.at.0 ≤ by → Some due ≡ first_due u by
    first_soon due is soon =
        let least = subst (IsLeastOf IsOne) is least_one in
        is_first (Some due) (one_due due least.0 soon, λ q there less. least.1 q (due_one q there).0 less)

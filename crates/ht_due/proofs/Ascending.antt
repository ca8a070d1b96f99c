-- Lists of dues in order, as dues come and go.
use Rattle.std.proofs.Common.{◌≡◌, Bool, true, false, List, [], ◌∷◌, refl, sym, ap, subst, ◌∙◌, ◌||◌, ◌&&◌, not}
use Rattle.std.specs.Ordering.{is_eq, match_ordering}
use Rattle.std.specs.declared.cmp.Ordering.{Ordering}
use Rattle.std.specs.declared.cmp.Ordering.TheVariants.{Less, Equal, Greater}
use Rattle.ht_due.specs.declared.due.Due.{Due}
use Rattle.ht_due.specs.Dues.{Ascends, compare_dues, has, put_due, without}
use Rattle.ht_due.proofs.Order.{Before, before_more, exact, flip, itself}

-- ---- one more

before_put : (x y : Due) (xs : List Due) → Before x xs → compare_dues x y ≡ Less → Before x (put_due xs y)
before_put x y [] b l = (l, tt)
before_put x y (z ∷ xs) b l = go (compare_dues y z) (before_put x y xs b.1 l)
  where
    go : (o : Ordering) → Before x (put_due xs y) → Before x (match_ordering o (y ∷ z ∷ xs) (z ∷ xs) (z ∷ put_due xs y))
    go Less more = (l, b)
    go Equal more = b
    go Greater more = (b.0, more)

pub ascends_put : (xs : List Due) (y : Due) → Ascends xs → Ascends (put_due xs y)
ascends_put [] y a = (tt, tt)
ascends_put (x ∷ xs) y a = go (compare_dues y x) refl (ascends_put xs y a.1)
  where
    go : (o : Ordering) → compare_dues y x ≡ o → Ascends (put_due xs y) → Ascends (match_ordering o (y ∷ x ∷ xs) (x ∷ xs) (x ∷ put_due xs y))
    go Less e more = ((e, before_more y x xs e a.0), a)
    go Equal e more = a
    go Greater e more = (before_put x y xs a.0 (flip y x Greater e), more)

pub has_put : (q : Due) (xs : List Due) (y : Due) → has q (put_due xs y) ≡ (is_eq (compare_dues q y) || has q xs)
has_put q [] y = refl
has_put q (x ∷ xs) y = go (compare_dues y x) refl (has_put q xs y)
  where
    twice : (a b h : Bool) → a ≡ b → (a || h) ≡ (b || (a || h))
    twice true true h e = refl
    twice true false h e = cc
    twice false true h e = cc
    twice false false h e = refl

    turn : (a b h : Bool) → (a || (b || h)) ≡ (b || (a || h))
    turn true true h = refl
    turn true false h = refl
    turn false b h = refl

    go : (o : Ordering) → compare_dues y x ≡ o → has q (put_due xs y) ≡ (is_eq (compare_dues q y) || has q xs) → has q (match_ordering o (y ∷ x ∷ xs) (x ∷ xs) (x ∷ put_due xs y)) ≡ (is_eq (compare_dues q y) || has q (x ∷ xs))
    go Less e more = refl
    go Equal e more = twice (is_eq (compare_dues q x)) (is_eq (compare_dues q y)) (has q xs) (ap (λ (d : Due). is_eq (compare_dues q d)) (sym (exact y x e)))
    go Greater e more = ap (λ b. is_eq (compare_dues q x) || b) more ∙ turn (is_eq (compare_dues q x)) (is_eq (compare_dues q y)) (has q xs)

-- ---- one less

before_without : (x y : Due) (xs : List Due) → Before x xs → Before x (without xs y)
before_without x y [] b = tt
before_without x y (z ∷ xs) b = go (compare_dues y z) (before_without x y xs b.1)
  where
    go : (o : Ordering) → Before x (without xs y) → Before x (match_ordering o (z ∷ xs) xs (z ∷ without xs y))
    go Less more = b
    go Equal more = b.1
    go Greater more = (b.0, more)

pub ascends_without : (xs : List Due) (y : Due) → Ascends xs → Ascends (without xs y)
ascends_without [] y a = tt
ascends_without (x ∷ xs) y a = go (compare_dues y x) (ascends_without xs y a.1)
  where
    go : (o : Ordering) → Ascends (without xs y) → Ascends (match_ordering o (x ∷ xs) xs (x ∷ without xs y))
    go Less more = a
    go Equal more = a.1
    go Greater more = (before_without x y xs a.0, more)

pub absent : (y : Due) (xs : List Due) → Before y xs → has y xs ≡ false
absent y [] b = refl
absent y (x ∷ xs) b = ap (λ o. is_eq o || has y xs) b.0 ∙ absent y xs b.1

same_has : (q y : Due) (xs : List Due) → compare_dues q y ≡ Equal → has y xs ≡ false → has q xs ≡ false
same_has q y xs e h = ap (λ (d : Due). has d xs) (exact q y e) ∙ h

pub has_without : (q : Due) (xs : List Due) (y : Due) → Ascends xs → has q (without xs y) ≡ (not (is_eq (compare_dues q y)) && has q xs)
has_without q [] y a = none (is_eq (compare_dues q y))
  where
    none : (b : Bool) → false ≡ (not b && false)
    none true = refl
    none false = refl
has_without q (x ∷ xs) y a = go (has_without q xs y a.1) (compare_dues y x) refl (compare_dues q y) refl
  where
    go : has q (without xs y) ≡ (not (is_eq (compare_dues q y)) && has q xs) → (o : Ordering) → compare_dues y x ≡ o → (p : Ordering) → compare_dues q y ≡ p → has q (match_ordering o (x ∷ xs) xs (x ∷ without xs y)) ≡ (not (is_eq p) && has q (x ∷ xs))
    go more Less e Equal f = same_has q y (x ∷ xs) f (absent y (x ∷ xs) (e, before_more y x xs e a.0))
    go more Less e Less f = refl
    go more Less e Greater f = refl
    go more Equal e Equal f = same_has q x xs (ap (λ (d : Due). compare_dues q d) (sym (exact y x e)) ∙ f) (absent x xs a.0)
    go more Equal e Less f = sym (ap (λ o. is_eq o || has q xs) (ap (λ (d : Due). compare_dues q d) (sym (exact y x e)) ∙ f))
    go more Equal e Greater f = sym (ap (λ o. is_eq o || has q xs) (ap (λ (d : Due). compare_dues q d) (sym (exact y x e)) ∙ f))
    go more Greater e Equal f =
        ap (λ o. is_eq o || has q (without xs y)) (ap (λ (d : Due). compare_dues d x) (exact q y f) ∙ e)
        ∙ more
        ∙ ap (λ o. not (is_eq o) && has q xs) f
    go more Greater e Less f = ap (λ b. is_eq (compare_dues q x) || b) (more ∙ ap (λ o. not (is_eq o) && has q xs) f)
    go more Greater e Greater f = ap (λ b. is_eq (compare_dues q x) || b) (more ∙ ap (λ o. not (is_eq o) && has q xs) f)

-- ---- two lists in order with the same dues are one

pub same_dues : (xs ys : List Due) → Ascends xs → Ascends ys → ((q : Due) → has q xs ≡ has q ys) → xs ≡ ys
same_dues [] [] a b h = refl
same_dues [] (y ∷ ys) a b h = absurd (no (h y ∙ ap (λ o. is_eq o || has y ys) (itself y)))
  where
    no : false ≡ true → ⊥
    no e = cc
same_dues (x ∷ xs) [] a b h = absurd (no (sym (ap (λ o. is_eq o || has x xs) (itself x)) ∙ h x))
  where
    no : true ≡ false → ⊥
    no e = cc
same_dues (x ∷ xs) (y ∷ ys) a b h = go (λ t. same_dues xs ys a.1 b.1 t) (compare_dues x y) refl
  where
    no : true ≡ false → ⊥
    no e = cc

    here : (d : Due) (ds : List Due) → has d (d ∷ ds) ≡ true
    here d ds = ap (λ o. is_eq o || has d ds) (itself d)

    rest : (d q : Due) (ds : List Due) (b : Bool) → is_eq (compare_dues q d) ≡ b → Before d ds → has q ds ≡ (not b && has q (d ∷ ds))
    rest d q ds true e l = one (compare_dues q d) refl e
      where
        one : (o : Ordering) → compare_dues q d ≡ o → is_eq o ≡ true → has q ds ≡ false
        one Equal f t = same_has q d ds f (absent d ds l)
        one Less f t = cc
        one Greater f t = cc
    rest d q ds false e l = sym (ap (λ c. c || has q ds) e)

    go : (((q : Due) → has q xs ≡ has q ys) → xs ≡ ys) → (o : Ordering) → compare_dues x y ≡ o → x ∷ xs ≡ y ∷ ys
    go same Less e = absurd (no (sym (here x xs) ∙ h x ∙ absent x (y ∷ ys) (e, before_more x y ys e b.0)))
    go same Greater e = let l = flip x y Greater e in absurd (no (sym (here y ys) ∙ sym (h y) ∙ absent y (x ∷ xs) (l, before_more y x xs l a.0)))
    go same Equal e =
        let i = exact x y e in
        let P : Due → Type 0 = λ d. Before d ys in
        let tail : xs ≡ ys = same (λ q.
        rest x q xs (is_eq (compare_dues q x)) refl a.0
        ∙ ap (λ b. not (is_eq (compare_dues q x)) && b) (h q)
        ∙ ap (λ (d : Due). not (is_eq (compare_dues q x)) && has q (d ∷ ys)) (sym i)
        ∙ sym (rest x q ys (is_eq (compare_dues q x)) refl (subst P (sym i) b.0))) in
        ap (λ (d : Due). d ∷ xs) i ∙ ap (λ (l : List Due). y ∷ l) tail

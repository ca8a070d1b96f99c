-- Dues that are taken out of a queue and put into it one by one.
use Rattle.std.proofs.Common.{◌≡◌, ℕ, ◌+◌, ◌<◌, suc, Bool, true, false, if◌then◌else◌, List, [], ◌∷◌, drop, filter, fold, get_or, length, refl, sym, ap, subst, ◌∙◌, ◌||◌, ◌&&◌, ◌==◌, not, arith}
use Rattle.std.proofs.Math.Bool.{or-true}
use Rattle.std.proofs.Math.Seq.{drop-cons}
use Rattle.std.proofs.lemmas.Bool.{and_parts, eqb-true}
use Rattle.std.proofs.lemmas.Bool.Decides.{nat_tests}
use Rattle.std.proofs.lemmas.Map.Views.{any-filter_same}
use Rattle.std.specs.Bool.{Decides}
use Rattle.std.specs.List.{AllByRecursion}
use Rattle.std.specs.Ordering.{is_eq}
use Rattle.std.specs.declared.cmp.Ordering.{Ordering}
use Rattle.std.specs.declared.cmp.Ordering.TheVariants.{Less, Equal, Greater}
use Rattle.ht_due.specs.declared.due.Due.{Due}
use Rattle.ht_due.specs.Dues.{AreNew, Ascends, compare_dues, has, merged, put_due, without}
use Rattle.ht_due.proofs.PublicLaws.{ascends_merged, exact, has_all_without, has_merged, has_put, same_dues}

absent : (d : Due) (ds : List Due) → AllByRecursion (λ x. compare_dues d x ≡ Less) ds → has d ds ≡ false
absent d [] b = refl
absent d (x ∷ ds) b = ap (λ o. is_eq o || has d ds) b.0 ∙ absent d ds b.1

-- once the first is in, the others are new still
rest_new : (d : Due) (ds gone xs : List Due) → Ascends (d ∷ ds) → AreNew (d ∷ ds) gone xs → AreNew ds gone (put_due xs d)
rest_new d ds gone xs up new q h out = has_put q xs d ∙ go (compare_dues q d) refl
  where
    more : (b : Bool) → (b || has q ds) ≡ true
    more true = refl
    more false = h

    go : (o : Ordering) → compare_dues q d ≡ o → (is_eq o || has q xs) ≡ false
    go Equal e = let there : has d ds ≡ true = ap (λ (x : Due). has x ds) (sym (exact q d e)) ∙ h in let not_there = absent d ds up.0 in cc
    go Less e = new q (more (is_eq (compare_dues q d))) out
    go Greater e = new q (more (is_eq (compare_dues q d))) out

-- and so they are once others are out
pub new_still : (dues others gone news : List Due) → Ascends dues → AreNew news gone dues → AreNew news gone (fold without dues others)
new_still dues others gone news up new q h out = has_all_without q dues others up ∙ ap (λ b. not (has q others) && b) (new q h out) ∙ none (not (has q others))
  where
    none : (b : Bool) → (b && false) ≡ false
    none true = refl
    none false = refl

-- `==` says whether two dues are one
pub same_due : (a b : Due) → Decides (a.at.0 == b.at.0 && (a.task.0 == b.task.0 && (a.kind == b.kind && a.place == b.place))) (a ≡ b)
same_due a b = (one, λ e. subst (λ (d : Due). test d ≡ true) e itself_same)
  where
    test : Due → Bool
    test d = a.at.0 == d.at.0 && (a.task.0 == d.task.0 && (a.kind == d.kind && a.place == d.place))

    one : test b ≡ true → a ≡ b
    one e =
        let p = and_parts (a.at.0 == b.at.0) (a.task.0 == b.task.0 && (a.kind == b.kind && a.place == b.place)) e in
        let q = and_parts (a.task.0 == b.task.0) (a.kind == b.kind && a.place == b.place) p.1 in
        let r = and_parts (a.kind == b.kind) (a.place == b.place) q.1 in
        λ i. record {
          at = record { 0 = eqb-true a.at.0 b.at.0 p.0 i };
          task = record { 0 = eqb-true a.task.0 b.task.0 q.0 i };
          kind = eqb-true a.kind b.kind r.0 i;
          place = eqb-true a.place b.place r.1 i;
        }

    itself_same : test a ≡ true
    itself_same = grind (arith, nat_tests)

-- those that are taken out and put in again stay
pub again : (dues gone : List Due) → Ascends dues → ((due : Due) → has due gone ≡ true → has due dues ≡ true) → dues ≡ merged dues gone gone
again dues gone up there = same_dues dues (merged dues gone gone) up (ascends_merged dues gone gone up) (λ q. go (has q gone) (has q dues) (there q) ∙ sym (has_merged q dues gone gone up))
  where
    go : (g d : Bool) → (g ≡ true → d ≡ true) → d ≡ (g || (not g && d))
    go true d is = is refl
    go false d is = refl

-- ---- those that stay

-- these, but for those that are among others
abbrev pub but_for : List Due → List Due → List Due
but_for others dues = filter (λ d. not (has d others)) dues

has_but_for : (q : Due) (others dues : List Due) → has q (but_for others dues) ≡ (not (has q others) && has q dues)
has_but_for q others dues = any-filter_same (λ d. is_eq (compare_dues q d)) (λ d. not (has d others)) (not (has q others)) (λ d same. ap (λ (x : Due). not (has x others)) (sym (exact q d (equal (compare_dues q d) same)))) dues
  where
    equal : (o : Ordering) → is_eq o ≡ true → o ≡ Equal
    equal Equal e = refl
    equal Less e = absurd cc
    equal Greater e = absurd cc

-- those that would go and come again may stay
pub both_stay : (dues gone news : List Due) → Ascends dues → ((due : Due) → has due gone ≡ true → has due dues ≡ true) → merged dues (but_for news gone) (but_for gone news) ≡ merged dues gone news
both_stay dues gone news up there = same_dues (merged dues (but_for news gone) (but_for gone news)) (merged dues gone news) (ascends_merged dues (but_for news gone) (but_for gone news) up) (ascends_merged dues gone news up) (λ q.
    has_merged q dues (but_for news gone) (but_for gone news) up
    ∙ ap (λ b. b || (not (has q (but_for news gone)) && has q dues)) (has_but_for q gone news)
    ∙ ap (λ b. (not (has q gone) && has q news) || (not b && has q dues)) (has_but_for q news gone)
    ∙ go (has q gone) (has q news) (has q dues) (there q)
    ∙ sym (has_merged q dues gone news up))
  where
    go : (g n d : Bool) → (g ≡ true → d ≡ true) → ((not g && n) || (not (not n && g) && d)) ≡ (n || (not g && d))
    go true true d is = is refl
    go true false d is = refl
    go false true d is = refl
    go false false d is = refl

-- ---- one after another

-- of the new ones from a place on, the next came or stayed
pub record IsNextIn (news gone : List Due) (place : ℕ) (xs ys : List Due) : Type 0 where
  pub ascend : Ascends (drop (place + 1) news)
  pub absent : AreNew (drop (place + 1) news) gone ys
  pub dues : fold put_due ys (but_for gone (drop (place + 1) news)) ≡ fold put_due xs (but_for gone (drop place news))

module _ (news gone : List Due) (place : ℕ) (none : Due) (xs : List Due) (within : place < length news) (up : Ascends (drop place news)) (new : AreNew (drop place news) gone xs) where
  abbrev d : Due
  d = get_or news place none

  abbrev rest : List Due
  rest = drop (place + 1) news

  split : drop place news ≡ d ∷ rest
  split = let e : suc place ≡ place + 1 = omega arith in drop-cons news place none within ∙ ap (λ n. d ∷ drop n news) e

  ascend : Ascends (d ∷ rest)
  ascend = subst Ascends split up

  all_new : AreNew (d ∷ rest) gone xs
  all_new = let P : List Due → Type 0 = λ l. AreNew l gone xs in subst P split new

  pub came : (ys : List Due) → has d gone ≡ false → ys ≡ put_due xs d → IsNextIn news gone place xs ys
  came ys out put =
      let P : List Due → Type 0 = λ l. AreNew rest gone l in
      record {
        ascend = ascend.1;
        absent = subst P (sym put) (rest_new d rest gone xs ascend all_new);
        dues =
            ap (λ (l : List Due). fold put_due l (but_for gone rest)) put
            ∙ ap (λ (b : Bool). fold put_due xs (if not b then d ∷ but_for gone rest else but_for gone rest)) (sym out)
            ∙ ap (λ (l : List Due). fold put_due xs (but_for gone l)) (sym split);
      }

  pub stayed : (ys : List Due) → has d gone ≡ true → ys ≡ xs → IsNextIn news gone place xs ys
  stayed ys there same =
      let P : List Due → Type 0 = λ l. AreNew rest gone l in
      record {
        ascend = ascend.1;
        absent = subst P (sym same) (λ q h out. all_new q (ap (λ b. is_eq (compare_dues q d) || b) h ∙ or-true (is_eq (compare_dues q d))) out);
        dues =
            ap (λ (l : List Due). fold put_due l (but_for gone rest)) same
            ∙ ap (λ (b : Bool). fold put_due xs (if not b then d ∷ but_for gone rest else but_for gone rest)) (sym there)
            ∙ ap (λ (l : List Due). fold put_due xs (but_for gone l)) (sym split);
      }

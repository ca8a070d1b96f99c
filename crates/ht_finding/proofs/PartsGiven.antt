-- Values that are given for parts ascend as what is given does.
use Rattle.std.proofs.Common.{◌≡◌, ℕ, ◌+◌, ◌<◌, zero, suc, List, [], ◌∷◌, ◌++◌, length, take, get_or, slice_get, Option, Some, None, option_map, filter_map, IsTrue, refl, ap, sym, ◌∙◌, subst, Ordering, Less, Equal, Greater, is_lt, is_le}
use Rattle.std.specs.Ordering.{nat_cmp}
use Rattle.std.specs.Cmp.Lexicographic.{slice_cmp}
use Rattle.std.specs.BTreeMap.Comparable.{le_lt_trans}
use Rattle.std.proofs.lemmas.Cmp.{nat_list_cmp_total}
use Rattle.std.proofs.lemmas.List.{take_more}
use Rattle.std.proofs.lemmas.List.Elements.{filter_map-append}
use Rattle.ht_base.specs.Values.{Ascend, IsBehind, is_before}

-- all of these names stand before one
abbrev AllBefore : {A : Type 0} → List ℕ → List (List ℕ × A) → Type 0
AllBefore name [] = Unit {0}
AllBefore name (v ∷ vs) = IsTrue (is_before v.0 name) × AllBefore name vs

pub behind_all : {A : Type 0} (name : List ℕ) (vs : List (List ℕ × A)) → AllBefore name vs → IsBehind name vs
behind_all name [] all = tt
behind_all name (v ∷ []) all = all.0
behind_all name (v ∷ w ∷ vs) all = behind_all name (w ∷ vs) all.1

less_is : (o : Ordering) → IsTrue (is_lt o) → o ≡ Less
less_is Less h = refl
less_is Equal h = cc
less_is Greater h = cc

before_trans : (a b c : List ℕ) → IsTrue (is_before a b) → IsTrue (is_before b c) → IsTrue (is_before a c)
before_trans a b c first second =
    let low = less_is (slice_cmp nat_cmp a b) first in
    let at_most : IsTrue (is_le (slice_cmp nat_cmp a b)) = rw low refl in
    let high = le_lt_trans nat_list_cmp_total a b c at_most (less_is (slice_cmp nat_cmp b c) second) in
    rw high refl

pub front_before : {A : Type 0} (gs : List (List ℕ × A)) → Ascend gs → (i : ℕ) (g : List ℕ × A) → slice_get gs i ≡ Some g → AllBefore g.0 (take i gs)
front_before [] up i g at = cc
front_before (v ∷ gs) up zero g at = tt
front_before (v ∷ []) up (suc i) g at = cc
front_before {A = A} (v ∷ w ∷ gs) up (suc zero) g at =
    let same : w ≡ g = cc in
    let P : List ℕ × A → Type 0 = λ x. IsTrue (is_before v.0 x.0) in
    (subst P same up.0, tt)
front_before (v ∷ w ∷ gs) up (suc (suc i)) g at =
    let rest = front_before (w ∷ gs) up.1 (suc i) g at in
    (before_trans v.0 w.0 g.0 up.0 rest.0, rest)

pub kept_before : {A B : Type 0} (f : List ℕ × A → Option B) (name : List ℕ) (gs : List (List ℕ × A)) → AllBefore name gs → AllBefore name (filter_map (λ g. option_map (λ v. (g.0, v)) (f g)) gs)
kept_before f name [] all = tt
kept_before {B = B} f name (g ∷ gs) all = at (f g) refl (kept_before f name gs all.1)
  where
    at : (o : Option B) → f g ≡ o → AllBefore name (filter_map (λ g. option_map (λ v. (g.0, v)) (f g)) gs) → AllBefore name (filter_map (λ g. option_map (λ v. (g.0, v)) (f g)) (g ∷ gs))
    at None is rest = rw is rest
    at (Some v) is rest = rw is (all.0, rest)

-- one more that is given
pub given_more : {A B : Type 0} (f : A → Option B) (gs : List A) (i : ℕ) (g : A) → i < length gs → g ≡ get_or gs i g → filter_map f (take (i + 1) gs) ≡ filter_map f (take i gs) ++ filter_map f (g ∷ [])
given_more f gs i g within is = ap (λ xs. filter_map f xs) (take_more gs i g within ∙ ap (λ x. take i gs ++ x ∷ []) (sym is)) ∙ filter_map-append f (take i gs) (g ∷ [])

pub one_given : {A B : Type 0} (f : A → Option B) (g : A) (v : B) → f g ≡ Some v → filter_map f (g ∷ []) ≡ v ∷ []
one_given f g v is = rw is refl

pub none_given : {A B : Type 0} (f : A → Option B) (g : A) → f g ≡ None → filter_map f (g ∷ []) ≡ []
none_given f g is = rw is refl

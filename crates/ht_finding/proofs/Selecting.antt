-- Sets of persons as filters of everybody.
use Rattle.std.proofs.Common.{◌≡◌, ℕ, ◌+◌, ◌<◌, ◌≤◌, ◌==◌, zero, suc, nat_lt, Bool, true, false, not, ◌&&◌, ◌||◌, cond, List, [], ◌∷◌, ◌++◌, filter, refl, ap, sym, ◌∙◌, subst, inl, inr, eq-eqb, arith}
use Rattle.std.proofs.lemmas.Bool.{cases_eq}
use Rattle.std.proofs.lemmas.Bool.Decides.{nat_tests}
use Rattle.ht_base.specs.Persons.{AllBelow, Ascends, AscendsFrom, has}
use Rattle.std.specs.List.{range_with_len}
use Rattle.std.specs.Prelude.{Result, Ok, Err, IfOk}

apart : (m n : ℕ) → (m ≡ n → ⊥) → (m == n) ≡ false
apart m n d = grind (arith, nat_tests)

pub below_is : (m n : ℕ) → m < n → nat_lt m n ≡ true
below_is m n h = grind (arith, nat_tests)

past_is : (m n : ℕ) → n ≤ m → nat_lt m n ≡ false
past_is m n h = grind (arith, nat_tests)

-- ---- the numbers below one

pub counted_push : (from n : ℕ) → range_with_len from n ++ (from + n) ∷ [] ≡ range_with_len from (suc n)
counted_push from zero = let e : from + 0 ≡ from = omega arith in ap (λ k. k ∷ []) e
counted_push from (suc n) =
    let e : from + suc n ≡ (from + 1) + n = omega arith in
    ap (λ k. from ∷ (range_with_len (from + 1) n ++ k ∷ [])) e ∙ ap (λ l. from ∷ l) (counted_push (from + 1) n)

pub counted_below : (from n : ℕ) → AllBelow (from + n) (range_with_len from n)
counted_below from zero = tt
counted_below from (suc n) = (omega arith, below_more (from + 1 + n) (from + suc n) (range_with_len (from + 1) n) (omega arith) (counted_below (from + 1) n))
  where
    below_more : (m k : ℕ) (ps : List ℕ) → m ≤ k → AllBelow m ps → AllBelow k ps
    below_more m k [] h b = tt
    below_more m k (p ∷ ps) h b = (let low = b.0 in omega arith, below_more m k ps h b.1)

-- ---- an ascending list is the filter of them by what it has

none_below : (p n : ℕ) (ps : List ℕ) → AscendsFrom n ps → p < n → has p ps ≡ false
none_below p n [] a h = refl
none_below p n (q ∷ ps) a h =
    let low = a.0 in
    rw (apart q p (λ e. omega arith), none_below p (q + 1) ps a.1 (omega arith)) refl

-- what a list that ascends from a place has, once that place is passed
after_first : (k : ℕ) (ps : List ℕ) → AscendsFrom k ps → has k ps ≡ false → AscendsFrom (k + 1) ps
after_first k [] a h = tt
after_first k (q ∷ ps) a h = elim (cases_eq q k) [
  | inl e ↦ absurd (is_there (eq-eqb q k e))
  | inr d ↦ (let low = a.0 in omega arith, a.1)
]
  where
    is_there : (q == k) ≡ true → ⊥
    is_there e = let both : (true || has k ps) ≡ false = rw e at h in cc

-- the list begins with the place, and what is behind it
record BeginsWith (k : ℕ) (ps : List ℕ) : Type 0 where
  rest : List ℕ
  is : ps ≡ k ∷ rest
  ascends : AscendsFrom (k + 1) rest

begins : (k : ℕ) (ps : List ℕ) → AscendsFrom k ps → has k ps ≡ true → BeginsWith k ps
begins k [] a h = cc
begins k (q ∷ ps) a h = elim (cases_eq q k) [
  | inl e ↦ record { rest = ps; is = ap (λ x. x ∷ ps) e; ascends = let P : ℕ → Type 0 = λ x. AscendsFrom (x + 1) ps in subst P e a.1 }
  | inr d ↦ absurd (let low = a.0 in let none : has k (q ∷ ps) ≡ false = rw (apart q k d, none_below k (q + 1) ps a.1 (omega arith)) refl in cc)
]

-- one place more
by_test : (test : ℕ → Bool) (n k : ℕ) (ps : List ℕ) → AscendsFrom k ps → ((p : ℕ) → k ≤ p → has p ps ≡ (nat_lt p (k + suc n) && test p)) → ((qs : List ℕ) → AscendsFrom (k + 1) qs → ((p : ℕ) → k + 1 ≤ p → has p qs ≡ (nat_lt p (k + 1 + n) && test p)) → qs ≡ filter test (range_with_len (k + 1) n)) → (b : Bool) → test k ≡ b → ps ≡ cond (test k) (k ∷ filter test (range_with_len (k + 1) n)) (filter test (range_with_len (k + 1) n))
by_test test n k ps a h rest b e = at b e
  where
    here : has k ps ≡ test k
    here = h k (omega arith) ∙ ap (λ c. c && test k) (below_is k (k + suc n) (omega arith))

    same_end : (p : ℕ) → nat_lt p (k + suc n) ≡ nat_lt p (k + 1 + n)
    same_end p = let s : k + suc n ≡ k + 1 + n = omega arith in ap (λ m. nat_lt p m) s

    at : (b : Bool) → test k ≡ b → ps ≡ cond (test k) (k ∷ filter test (range_with_len (k + 1) n)) (filter test (range_with_len (k + 1) n))
    at false e = rw e (rest ps (after_first k ps a (here ∙ e)) (λ p l. h p (omega arith) ∙ ap (λ c. c && test p) (same_end p)))
    at true e =
        let b = begins k ps a (here ∙ e) in
        rw e (b.is ∙ ap (λ l. k ∷ l) (rest b.rest b.ascends (λ p l.
        let other : (k == p) ≡ false = apart k p (λ q. omega arith) in
        let step : has p ps ≡ has p b.rest = ap (λ l. has p l) b.is ∙ ap (λ c. c || has p b.rest) other in
        sym step ∙ h p (omega arith) ∙ ap (λ c. c && test p) (same_end p))))

pub filter_is : (test : ℕ → Bool) (n k : ℕ) (ps : List ℕ) → AscendsFrom k ps → ((p : ℕ) → k ≤ p → has p ps ≡ (nat_lt p (k + n) && test p)) → ps ≡ filter test (range_with_len k n)
filter_is test zero k [] a h = refl
filter_is test zero k (q ∷ ps) a h =
    let low = a.0 in
    let there : has q (q ∷ ps) ≡ true = ap (λ b. b || has q ps) (eq-eqb q q refl) in
    let not_there = h q low in
    let past : nat_lt q (k + 0) ≡ false = past_is q (k + 0) (omega arith) in
    let none : has q (q ∷ ps) ≡ false = not_there ∙ ap (λ b. b && test q) past in
    absurd (let e : true ≡ false = sym there ∙ none in cc)
filter_is test (suc n) k ps a h = by_test test n k ps a h (λ qs b g. filter_is test n (k + 1) qs b g) (test k) refl

-- what such a filter has
none_of : (test : ℕ → Bool) (n k p : ℕ) → p < k → has p (filter test (range_with_len k n)) ≡ false
none_of test zero k p l = refl
none_of test (suc n) k p l = at (test k) (none_of test n (k + 1) p (omega arith))
  where
    at : (b : Bool) → has p (filter test (range_with_len (k + 1) n)) ≡ false → has p (cond b (k ∷ filter test (range_with_len (k + 1) n)) (filter test (range_with_len (k + 1) n))) ≡ false
    at false h = h
    at true h = rw (apart k p (λ e. omega arith)) h

pub has-filter : (test : ℕ → Bool) (n k p : ℕ) → k ≤ p → has p (filter test (range_with_len k n)) ≡ (nat_lt p (k + n) && test p)
has-filter test zero k p l = sym (ap (λ b. b && test p) (past_is p (k + 0) (omega arith)))
has-filter test (suc n) k p l = elim (cases_eq k p) [
  | inl e ↦ first e (test k) refl
  | inr d ↦ later d (test k) (has-filter test n (k + 1) p (omega arith))
]
  where
    first : k ≡ p → (b : Bool) → test k ≡ b → has p (cond (test k) (k ∷ filter test (range_with_len (k + 1) n)) (filter test (range_with_len (k + 1) n))) ≡ (nat_lt p (k + suc n) && test p)
    first e true t =
        let mine : test p ≡ true = sym (ap (λ q. test q) e) ∙ t in
        rw (t, eq-eqb k p e, below_is p (k + suc n) (omega arith), mine) refl
    first e false t =
        let mine : test p ≡ false = sym (ap (λ q. test q) e) ∙ t in
        rw (t, none_of test n (k + 1) p (omega arith), below_is p (k + suc n) (omega arith), mine) refl

    later : (k ≡ p → ⊥) → (b : Bool) → has p (filter test (range_with_len (k + 1) n)) ≡ (nat_lt p (k + 1 + n) && test p) → has p (cond b (k ∷ filter test (range_with_len (k + 1) n)) (filter test (range_with_len (k + 1) n))) ≡ (nat_lt p (k + suc n) && test p)
    later d true h = rw (apart k p d) (h ∙ ap (λ c. c && test p) (let s : k + 1 + n ≡ k + suc n = omega arith in ap (λ m. nat_lt p m) s))
    later d false h = h ∙ ap (λ c. c && test p) (let s : k + 1 + n ≡ k + suc n = omega arith in ap (λ m. nat_lt p m) s)

-- ---- from 0 on

pub all_below : (n : ℕ) → AllBelow n (range_with_len 0 n)
all_below n = let e : 0 + n ≡ n = omega arith in let P : ℕ → Type 0 = λ m. AllBelow m (range_with_len 0 n) in subst P e (counted_below 0 n)

pub all_push : (n : ℕ) → range_with_len 0 n ++ n ∷ [] ≡ range_with_len 0 (n + 1)
all_push n =
    let e : 0 + n ≡ n = omega arith in
    let f : suc n ≡ n + 1 = omega arith in
    ap (λ m. range_with_len 0 n ++ m ∷ []) (sym e) ∙ counted_push 0 n ∙ ap (λ m. range_with_len 0 m) f

-- an ascending list that has those who pass a test
pub selected : (test : ℕ → Bool) (n : ℕ) (ps : List ℕ) → Ascends ps → ((p : ℕ) → has p ps ≡ (nat_lt p n && test p)) → ps ≡ filter test (range_with_len 0 n)
selected test n ps a h =
    let e : 0 + n ≡ n = omega arith in
    filter_is test n 0 ps a (λ p l. h p ∙ ap (λ m. nat_lt p m && test p) (sym e))

pub has_selected : (test : ℕ → Bool) (n p : ℕ) → has p (filter test (range_with_len 0 n)) ≡ (nat_lt p n && test p)
has_selected test n p =
    let e : 0 + n ≡ n = omega arith in
    has-filter test n 0 p (omega arith) ∙ ap (λ m. nat_lt p m && test p) e

-- ---- what a set of two has

pub either_of : (a b c : Bool) → ((a && b) || (a && c)) ≡ (a && (b || c))
either_of true b c = refl
either_of false b c = refl

pub both_of : (a b c : Bool) → ((a && b) && (a && c)) ≡ (a && (b && c))
both_of true b c = refl
both_of false b c = refl

pub first_of_two : (a b c : Bool) → ((a && b) && not (a && c)) ≡ (a && (b && not c))
first_of_two true b c = refl
first_of_two false b c = refl

-- ---- nobody, everybody, and one

pub select_none : (test : ℕ → Bool) (ps : List ℕ) → ((p : ℕ) → test p ≡ false) → [] ≡ filter test ps
select_none test [] fails = refl
select_none test (p ∷ ps) fails = rw (fails p) (select_none test ps fails)

pub select_all : (test : ℕ → Bool) (ps : List ℕ) → ((p : ℕ) → test p ≡ true) → ps ≡ filter test ps
select_all test [] passes = refl
select_all test (p ∷ ps) passes = rw (passes p) (ap (λ l. p ∷ l) (select_all test ps passes))

and_false : (b : Bool) → (b && false) ≡ false
and_false true = refl
and_false false = refl

pub select_one : (test : ℕ → Bool) (n q : ℕ) → q < n → ((p : ℕ) → test p ≡ (p == q)) → q ∷ [] ≡ filter test (range_with_len 0 n)
select_one test n q within is = selected test n (q ∷ []) (omega arith, tt) each
  where
    each : (p : ℕ) → has p (q ∷ []) ≡ (nat_lt p n && test p)
    each p = elim (cases_eq q p) [
      | inl e ↦ rw (eq-eqb q p e, below_is p n (omega arith), is p, eq-eqb p q (sym e)) refl
      | inr d ↦ rw (apart q p d, is p, apart p q (λ e. d (sym e))) (sym (and_false (nat_lt p n)))
    ]

-- nobody of them is one who isn't there
pub select_past : (test : ℕ → Bool) (n q : ℕ) → n ≤ q → ((p : ℕ) → test p ≡ (p == q)) → [] ≡ filter test (range_with_len 0 n)
select_past test n q past is = selected test n [] tt each
  where
    each : (p : ℕ) → false ≡ (nat_lt p n && test p)
    each p = elim (cases_eq q p) [
      | inl e ↦ rw (past_is p n (omega arith)) refl
      | inr d ↦ rw (is p, apart p q (λ e. d (sym e))) (sym (and_false (nat_lt p n)))
    ]

-- ---- of two sets

-- what is answered of two sets, where a test of both goes with being there
pub joined : {E : Type 0} (join : Bool → Bool → Bool) → ((a b c : Bool) → join (a && b) (a && c) ≡ (a && join b c)) → (f g : ℕ → Bool) (n : ℕ) (xs ys : List ℕ) → xs ≡ filter f (range_with_len 0 n) → ys ≡ filter g (range_with_len 0 n) → (r : Result (List ℕ) E) → IfOk r (λ l. (p : ℕ) → has p l ≡ join (has p xs) (has p ys)) → IfOk r Ascends → IfOk r (λ l. l ≡ filter (λ p. join (f p) (g p)) (range_with_len 0 n))
joined join law f g n xs ys x y (Ok l) set up = selected (λ p. join (f p) (g p)) n l up (λ p. set p ∙ rw (x, y, has_selected f n p, has_selected g n p) (law (nat_lt p n) (f p) (g p)))
joined join law f g n xs ys x y (Err e) set up = tt

-- ---- of persons of a row, and those whom a command names

-- whoever is in a list of persons is a person
pub below_has : (n : ℕ) (ps : List ℕ) (p : ℕ) → AllBelow n ps → has p ps ≡ (nat_lt p n && has p ps)
below_has n [] p below = sym (and_false (nat_lt p n))
below_has n (q ∷ ps) p below = elim (cases_eq q p) [
  | inl e ↦ rw (below_is p n (let low = below.0 in omega arith)) refl
  | inr d ↦ rw (apart q p d) (below_has n ps p below.1)
]

-- what is answered of those who pass a test, all of them persons, and of those whom a command names
pub joined_by : {E : Type 0} (join : Bool → Bool → Bool) → ((a b c : Bool) → join (a && b) (a && c) ≡ (a && join b c)) → (g f : ℕ → Bool) (n : ℕ) (ys : List ℕ) → ((p : ℕ) → g p ≡ (nat_lt p n && g p)) → ys ≡ filter f (range_with_len 0 n) → (r : Result (List ℕ) E) → IfOk r (λ l. (p : ℕ) → has p l ≡ join (g p) (has p ys)) → IfOk r Ascends → IfOk r (λ l. l ≡ filter (λ p. join (g p) (f p)) (range_with_len 0 n))
joined_by join law g f n ys below is (Ok l) set up = selected (λ p. join (g p) (f p)) n l up (λ p.
    set p
    ∙ ap (λ (b : Bool). join b (has p ys)) (below p)
    ∙ ap (λ (zs : List ℕ). join (nat_lt p n && g p) (has p zs)) is
    ∙ ap (λ (b : Bool). join (nat_lt p n && g p) b) (has_selected f n p)
    ∙ law (nat_lt p n) (g p) (f p))
joined_by join law g f n ys below is (Err e) set up = tt

-- those who are left are persons too
pub rest_below : (a b c : Bool) → b ≡ (a && b) → (b && not c) ≡ (a && (b && not c))
rest_below true b c e = refl
rest_below false true c e = cc
rest_below false false c e = refl

-- ---- answers

-- what is answered says more
pub if_ok : {A E : Type 0} (P Q : A → Type 0) (r : Result A E) → ((x : A) → P x → Q x) → IfOk r P → IfOk r Q
if_ok P Q (Ok x) more p = more x p
if_ok P Q (Err e) more p = tt

-- ---- a filter ascends

filter_ascends : (test : ℕ → Bool) (n k : ℕ) → AscendsFrom k (filter test (range_with_len k n))
filter_ascends test zero k = tt
filter_ascends test (suc n) k = at (test k) (filter_ascends test n (k + 1))
  where
    lower : (m j : ℕ) (ps : List ℕ) → m ≤ j → AscendsFrom j ps → AscendsFrom m ps
    lower m j [] h a = tt
    lower m j (p ∷ ps) h a = (let low = a.0 in omega arith, a.1)

    at : (b : Bool) → AscendsFrom (k + 1) (filter test (range_with_len (k + 1) n)) → AscendsFrom k (cond b (k ∷ filter test (range_with_len (k + 1) n)) (filter test (range_with_len (k + 1) n)))
    at true a = (omega arith, a)
    at false a = lower k (k + 1) (filter test (range_with_len (k + 1) n)) (omega arith) a

pub selected_ascends : (test : ℕ → Bool) (n : ℕ) → Ascends (filter test (range_with_len 0 n))
selected_ascends test n = filter_ascends test n 0

-- nobody who is taken out is left
pub selected_apart : (f g : ℕ → Bool) (n p : ℕ) → has p (filter (λ q. f q && not (g q)) (range_with_len 0 n)) ≡ true → has p (filter g (range_with_len 0 n)) ≡ false
selected_apart f g n p h = has_selected g n p ∙ apart_of (nat_lt p n) (f p) (g p) (sym (has_selected (λ q. f q && not (g q)) n p) ∙ h)
  where
    apart_of : (a b c : Bool) → (a && (b && not c)) ≡ true → (a && c) ≡ false
    apart_of false b c h = refl
    apart_of true false c h = cc
    apart_of true true false h = refl
    apart_of true true true h = cc

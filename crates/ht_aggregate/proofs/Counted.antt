-- What is counted among others is one of them, and the other way round.
use Rattle.std.proofs.Common.{◌≡◌, ◌≢◌, zero-add, ℕ, ◌+◌, ◌<◌, ◌≤◌, Bool, true, false, not, cond, List, [], ◌∷◌, length, refl, sym, ap, ◌∙◌, subst, inl, inr, arith, bytes_eq, IsTrue}
use Rattle.std.specs.List.{All, Contains, count_by, filter}
use Rattle.std.proofs.lemmas.Bool.{cases_Bool, false≢true, false_from_ne_true}
use Rattle.std.proofs.lemmas.List.Elements.{All-cons, All-head, All-nil, All-tail}
use Rattle.std.proofs.lemmas.List.Sums.{length-filter, sum_by-cons}
use Rattle.std.proofs.lemmas.Slice.Eq.{bytes_eq-Decides}
use Rattle.ht_base.specs.declared.value.Value.{Value}
use Rattle.ht_base.specs.declared.value.Value.TheVariants.{Text, Int, Truth, Person, Instant}
use Rattle.ht_aggregate.specs.Frequencies.{times}
use Rattle.ht_aggregate.specs.Searching.{is_text}
use Rattle.ht_aggregate.specs.Given.{texts}
use Rattle.ht_aggregate.specs.Truths.{AreAllTrue, IsAnyTrue, falses, trues}
use Rattle.ht_aggregate.proofs.Members.{Contains-cons_cases, Contains-first, Contains-later, Contains-none}

-- ---- texts

pub times-cons : (t x : List ℕ) (xs : List (List ℕ)) → times t (x ∷ xs) ≡ cond (bytes_eq x t) 1 0 + times t xs
times-cons t x xs = sum_by-cons (λ y. cond (bytes_eq y t) 1 0) x xs

pub times-other : (t x : List ℕ) (xs : List (List ℕ)) → x ≢ t → times t (x ∷ xs) ≡ times t xs
times-other t x xs other =
    let apart : bytes_eq x t ≡ false = false_from_ne_true (bytes_eq x t) (λ e. other ((bytes_eq-Decides x t).0 e)) in
    times-cons t x xs ∙ ap (λ b. cond b 1 0 + times t xs) apart ∙ zero-add (times t xs)

times-same : (t : List ℕ) (xs : List (List ℕ)) → times t (t ∷ xs) ≡ 1 + times t xs
times-same t xs = times-cons t t xs ∙ ap (λ b. cond b 1 0 + times t xs) ((bytes_eq-Decides t t).1 refl)

pub times_of_one : (t : List ℕ) (xs : List (List ℕ)) → Contains xs t → 1 ≤ times t xs
times_of_one t [] h = absurd (Contains-none t h)
times_of_one t (x ∷ xs) h =
    elim (Contains-cons_cases x xs t h) [
      | inl e ↦ subst (λ y. 1 ≤ times t (y ∷ xs)) (sym e) (omega (arith, times-same t xs))
      | inr later ↦ omega (arith, times-cons t x xs, times_of_one t xs later)
    ]

pub one_of_times : (t : List ℕ) (xs : List (List ℕ)) → 1 ≤ times t xs → Contains xs t
one_of_times t [] h = absurd (omega arith)
one_of_times t (x ∷ xs) h =
    elim (cases_Bool (bytes_eq x t)) [
      | inl same ↦ subst (λ y. Contains (x ∷ xs) y) ((bytes_eq-Decides x t).0 same) (Contains-first x xs)
      | inr other ↦
          let rest : times t (x ∷ xs) ≡ 0 + times t xs = times-cons t x xs ∙ ap (λ b. cond b 1 0 + times t xs) other in
          Contains-later x xs t (one_of_times t xs (omega (arith, rest)))
    ]

-- the values that are this text
pub length-filter-is_text : (t : List ℕ) (vs : List Value) → length (filter (is_text t) vs) ≡ times t (texts vs)
length-filter-is_text t vs = length-filter (is_text t) vs ∙ found vs where
  one : (v : Value) (vs : List Value) → count_by (is_text t) (v ∷ vs) ≡ cond (is_text t v) 1 0 + count_by (is_text t) vs
  one v vs = sum_by-cons (λ v. cond (is_text t v) 1 0) v vs

  found : (vs : List Value) → count_by (is_text t) vs ≡ times t (texts vs)
  found [] = refl
  found (Text x ∷ vs) = one (Text x) vs ∙ ap (λ n. cond (bytes_eq x t) 1 0 + n) (found vs) ∙ sym (times-cons t x (texts vs))
  found (Int x ∷ vs) = omega (arith, one (Int x) vs, found vs)
  found (Truth x ∷ vs) = omega (arith, one (Truth x) vs, found vs)
  found (Person x ∷ vs) = omega (arith, one (Person x) vs, found vs)
  found (Instant x ∷ vs) = omega (arith, one (Instant x) vs, found vs)

-- ---- truth values

trues-cons : (t : Bool) (ts : List Bool) → trues (t ∷ ts) ≡ cond t 1 0 + trues ts
trues-cons t ts = sum_by-cons (λ x. cond x 1 0) t ts

falses-cons : (t : Bool) (ts : List Bool) → falses (t ∷ ts) ≡ cond (not t) 1 0 + falses ts
falses-cons t ts = sum_by-cons (λ x. cond (not x) 1 0) t ts

pub true_counted : (ts : List Bool) → IsAnyTrue ts → 0 < trues ts
true_counted [] h = absurd (Contains-none true h)
true_counted (true ∷ ts) h = omega (arith, trues-cons true ts)
true_counted (false ∷ ts) h =
    elim (Contains-cons_cases false ts true h) [
      | inl e ↦ absurd (false≢true e)
      | inr later ↦ omega (arith, trues-cons false ts, true_counted ts later)
    ]

pub counted_true : (ts : List Bool) → 0 < trues ts → IsAnyTrue ts
counted_true [] h = absurd (omega arith)
counted_true (true ∷ ts) h = Contains-first true ts
counted_true (false ∷ ts) h = Contains-later false ts true (counted_true ts (omega (arith, trues-cons false ts)))

no_falses : (ts : List Bool) → falses ts ≡ 0 → All IsTrue ts
no_falses [] h = All-nil IsTrue
no_falses (true ∷ ts) h = All-cons IsTrue true ts refl (no_falses ts (omega (arith, falses-cons true ts)))
no_falses (false ∷ ts) h = absurd (omega (arith, falses-cons false ts))

falses_of_trues : (ts : List Bool) → All IsTrue ts → falses ts ≡ 0
falses_of_trues [] h = refl
falses_of_trues (true ∷ ts) h = omega (arith, falses-cons true ts, falses_of_trues ts (All-tail IsTrue true ts h))
falses_of_trues (false ∷ ts) h = absurd (false≢true (All-head IsTrue false ts h))

some_true : (ts : List Bool) → AreAllTrue ts → 0 < trues ts
some_true [] h = absurd (h.some refl)
some_true (true ∷ ts) h = omega (arith, trues-cons true ts)
some_true (false ∷ ts) h = absurd (false≢true (All-head IsTrue false ts h.all))

not_empty : (ts : List Bool) → 0 < trues ts → ts ≡ [] → ⊥
not_empty [] h e = omega arith
not_empty (t ∷ ts) h e = cc

-- all are true where some are and none is false
pub all_counted : (ts : List Bool) → 0 < trues ts → falses ts ≡ 0 → AreAllTrue ts
all_counted ts some none = record { some = not_empty ts some; all = no_falses ts none }

pub counted_all : (ts : List Bool) → AreAllTrue ts → (0 < trues ts) × (falses ts ≡ 0)
counted_all ts h = (some_true ts h, falses_of_trues ts h.all)

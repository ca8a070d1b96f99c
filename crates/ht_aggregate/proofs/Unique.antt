-- Each aggregate has one result.
use Rattle.std.proofs.Common.{◌≡◌, ℕ, suc, ℤ, pos, negsuc, ◌+ℤ◌, ◌*ℤ◌, ◌<ℤ◌, ◌≤ℤ◌, Bool, true, false, List, [], length, take, Option, Some, None, IsTrue, refl, sym, ap, ◌∙◌, subst, ◌⊎◌, inl, inr, ◌↔◌, arith}
use Rattle.std.proofs.Math.IntN.{*ℤ-zero}
use Rattle.std.proofs.Math.Nat.{mul-le-mul_right}
use Rattle.std.proofs.lemmas.Bool.{cases_order}
use Rattle.std.proofs.lemmas.Int.{by_lt_z, ints}
use Rattle.std.proofs.lemmas.List.Elements.{All-contains}
use Rattle.ht_base.specs.declared.limits.TheConstants.{LONGEST_TEXT}
use Rattle.ht_base.specs.declared.how.How.{How}
use Rattle.ht_base.specs.declared.how.How.TheVariants as how
use Rattle.ht_base.specs.declared.value.Value.{Value}
use Rattle.ht_base.specs.declared.value.Value.TheVariants.{Text, Int, Truth}
use Rattle.ht_aggregate.specs.Aggregates.{IsAggregate, IsNumber, IsNumberOf, IsText, IsTruth}
use Rattle.ht_aggregate.specs.Frequencies.{IsElected, IsLeastFrequent, IsMostFrequent, IsOneOrEmpty}
use Rattle.ht_aggregate.specs.Given.{numbers, texts, truths}
use Rattle.ht_aggregate.specs.Joining.{IsCut, joined}
use Rattle.ht_aggregate.specs.Numbers.{IsAverage, IsGreatest, IsLeast}
use Rattle.ht_aggregate.specs.Truths.{AreAllTrue, AreForTrue, IsAnyTrue}
use Rattle.ht_aggregate.proofs.Cuts.{front_is}
use Rattle.ht_aggregate.proofs.Members.{Contains-none}
use Rattle.ht_aggregate.proofs.Ranked.{one_most, same_or_other}

-- ---- texts

one_cut : (most : ℕ) (whole s t : List ℕ) → IsCut most whole s → IsCut most whole t → s ≡ t
one_cut most whole s t h k =
    let same : length s ≡ length t =
    elim (cases_order (length s) (length t)) [
      | inl e ↦ e
      | inr differ ↦ elim differ [ inl less ↦ absurd (omega (arith, h.longest t k.begins k.characters less, k.within)) | inr more ↦ absurd (omega (arith, k.longest s h.begins h.characters more, h.within)) ]
    ] in
    sym (front_is whole s h.begins.0 h.begins.1) ∙ ap (λ n. take n whole) same ∙ front_is whole t k.begins.0 k.begins.1

one_least_frequent : (ts : List (List ℕ)) (a b : List ℕ) → IsLeastFrequent ts a → IsLeastFrequent ts b → a ≡ b
one_least_frequent ts a b h k =
    elim (same_or_other a b) [ inl e ↦ e | inr apart ↦ absurd (omega (arith, h.others b k.occurs (λ e. apart (sym e)), k.others a h.occurs apart)) ]

one_or_empty : (P : List ℕ → Type 0) → ((s t : List ℕ) → P s → P t → s ≡ t) → (s t : List ℕ) → IsOneOrEmpty P s → IsOneOrEmpty P t → s ≡ t
one_or_empty P one s t (inl h) (inl k) = one s t h k
one_or_empty P one s t (inl h) (inr k) = absurd (k.0 s h)
one_or_empty P one s t (inr h) (inl k) = absurd (h.0 t k)
one_or_empty P one s t (inr h) (inr k) = h.1 ∙ sym k.1

the_text : (P : List ℕ → Type 0) (r : Option Value) → IsText P r → (t : List ℕ) × P t × (r ≡ Some (Text t))
the_text P (Some (Text t)) h = (t, h, refl)
the_text P _ h = absurd h

one_text : (P : List ℕ → Type 0) → ((s t : List ℕ) → P s → P t → s ≡ t) → (a b : Option Value) → IsText P a → IsText P b → a ≡ b
one_text P one a b h k =
    let s = the_text P a h in
    let t = the_text P b k in
    s.2 ∙ ap (λ x. Some (Text x)) (one s.0 t.0 s.1 t.1) ∙ sym t.2

-- ---- truth values

same_truth : (fact : Type 0) (a b : Bool) → IsTrue a ↔ fact → IsTrue b ↔ fact → a ≡ b
same_truth fact true true h k = refl
same_truth fact false false h k = refl
same_truth fact true false h k = sym (k.1 (h.0 refl))
same_truth fact false true h k = h.1 (k.0 refl)

the_truth : (fact : Type 0) (r : Option Value) → IsTruth fact r → (t : Bool) × (IsTrue t ↔ fact) × (r ≡ Some (Truth t))
the_truth fact (Some (Truth t)) h = (t, h, refl)
the_truth fact _ h = absurd h

one_truth : (fact : Type 0) (a b : Option Value) → IsTruth fact a → IsTruth fact b → a ≡ b
one_truth fact a b h k =
    let s = the_truth fact a h in
    let t = the_truth fact b k in
    s.2 ∙ ap (λ x. Some (Truth x)) (same_truth fact s.0 t.0 s.1 t.1) ∙ sym t.2

-- ---- numbers

one_least : (ns : List ℤ) (a b : ℤ) → IsLeast ns a → IsLeast ns b → a ≡ b
one_least ns a b h k =
    omega (arith, ints, All-contains (λ n. a ≤ℤ n) ns b h.bound k.occurs, All-contains (λ n. b ≤ℤ n) ns a k.bound h.occurs)

one_greatest : (ns : List ℤ) (a b : ℤ) → IsGreatest ns a → IsGreatest ns b → a ≡ b
one_greatest ns a b h k =
    omega (arith, ints, All-contains (λ n. n ≤ℤ a) ns b h.bound k.occurs, All-contains (λ n. n ≤ℤ b) ns a k.bound h.occurs)

times_mono : (a b : ℤ) (n : ℕ) → a ≤ℤ b → (a *ℤ pos n) ≤ℤ (b *ℤ pos n)
times_mono (pos a) (pos b) n h = omega (arith, ints, mul-le-mul_right {m = a} {n = b} n (omega (arith, ints)))
times_mono (pos a) (negsuc b) n h = absurd (omega (arith, ints))
times_mono (negsuc a) (pos b) n h = omega (arith, ints)
times_mono (negsuc a) (negsuc b) n h = omega (arith, ints, mul-le-mul_right {m = suc b} {n = suc a} n (omega (arith, ints)))

not_below : (ns : List ℤ) (a b : ℤ) → IsAverage ns a → IsAverage ns b → a <ℤ b → ⊥
not_below ns a b h k less =
    let n = length ns in
    let next : (a +ℤ pos 1) ≤ℤ b = omega (arith, ints) in
    let more = times_mono (a +ℤ pos 1) b n next in
    omega (arith, ints, h.next, k.within)

one_average : (ns : List ℤ) (a b : ℤ) → IsAverage ns a → IsAverage ns b → a ≡ b
one_average ns a b h k = by_lt_z a b (λ less. absurd (not_below ns a b h k less)) (λ ge. by_lt_z b a (λ more. absurd (not_below ns b a k h more)) (λ le. omega (arith, ints)))

pub no_least : (n : ℤ) → IsLeast [] n → ⊥
no_least n h = Contains-none n h.occurs

pub no_greatest : (n : ℤ) → IsGreatest [] n → ⊥
no_greatest n h = Contains-none n h.occurs

pub no_average : (n : ℤ) → IsAverage [] n → ⊥
no_average n h = let none = *ℤ-zero (n +ℤ pos 1) in let more = h.next in omega (arith, ints)

the_number : (exact : ℤ) (r : Option Value) → IsNumber exact r → r ≡ Some (Int exact)
the_number exact (Some (Int n)) h = ap (λ x. Some (Int x)) h
the_number exact _ h = absurd h

number_or_none : (P : List ℤ → ℤ → Type 0) (ns : List ℤ) (r : Option Value) → IsNumberOf P ns r → ((r ≡ None) × (ns ≡ [])) ⊎ ((n : ℤ) × P ns n × (r ≡ Some (Int n)))
number_or_none P ns (Some (Int n)) h = inr (n, h, refl)
number_or_none P ns None h = inl (refl, h)
number_or_none P ns _ h = absurd h

one_number : (P : List ℤ → ℤ → Type 0) → ((ns : List ℤ) (a b : ℤ) → P ns a → P ns b → a ≡ b) → ((n : ℤ) → P [] n → ⊥)
    → (ns : List ℤ) (a b : Option Value) → IsNumberOf P ns a → IsNumberOf P ns b → a ≡ b
one_number P one never ns a b h k =
    elim (number_or_none P ns a h) [
      | inl none ↦ elim (number_or_none P ns b k) [
        | inl too ↦ none.0 ∙ sym too.0
        | inr some ↦ absurd (never some.0 (subst (λ l. P l some.0) none.1 some.1))
      ]
      | inr some ↦ elim (number_or_none P ns b k) [
        | inl none ↦ absurd (never some.0 (subst (λ l. P l some.0) none.1 some.1))
        | inr too ↦ some.2 ∙ ap (λ x. Some (Int x)) (one ns some.0 too.0 some.1 too.1) ∙ sym too.2
      ]
    ]

-- ---- all of them

pub one_result : (h : How) (vs : List Value) (a b : Option Value) → IsAggregate h vs a → IsAggregate h vs b → a ≡ b
one_result how.Concat vs a b h k = one_text (IsCut LONGEST_TEXT (joined [] (texts vs))) (one_cut LONGEST_TEXT (joined [] (texts vs))) a b h k
one_result (how.ConcatWithDelimiter d) vs a b h k = one_text (IsCut LONGEST_TEXT (joined d (texts vs))) (one_cut LONGEST_TEXT (joined d (texts vs))) a b h k
one_result how.MostFrequent vs a b h k =
    let P = IsMostFrequent (texts vs) in
    one_text (IsOneOrEmpty P) (one_or_empty P (one_most (texts vs))) a b h k
one_result how.LeastFrequent vs a b h k =
    let P = IsLeastFrequent (texts vs) in
    one_text (IsOneOrEmpty P) (one_or_empty P (one_least_frequent (texts vs))) a b h k
one_result (how.VoteOnString percent) vs a b h k =
    let P = IsElected percent (texts vs) in
    one_text (IsOneOrEmpty P) (one_or_empty P (λ s t x y. one_most (texts vs) s t x.most y.most)) a b h k
one_result how.And vs a b h k = one_truth (AreAllTrue (truths vs)) a b h k
one_result how.Or vs a b h k = one_truth (IsAnyTrue (truths vs)) a b h k
one_result (how.Vote percent) vs a b h k = one_truth (AreForTrue percent (truths vs)) a b h k
one_result how.Min vs a b h k = one_number IsLeast one_least no_least (numbers vs) a b h k
one_result how.Max vs a b h k = one_number IsGreatest one_greatest no_greatest (numbers vs) a b h k
one_result how.Sum vs a b h k = the_number _ a h ∙ sym (the_number _ b k)
one_result how.Avg vs a b h k = one_number IsAverage one_average no_average (numbers vs) a b h k

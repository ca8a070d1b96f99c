-- Worked examples of texts that are cut, elected or tied.
use Rattle.std.proofs.Common.{◌≡◌, ◌≢◌, ◌*◌, ◌<◌, ◌≤◌, ℕ, List, [], ◌∷◌, length, take, Some, refl, sym, ap, ◌∙◌, subst, inl, inr, arith, true, false, cond, bytes_eq}
use Rattle.std.specs.List.{Contains}
use Rattle.std.specs.Str.{IsUtf8, chars, is_utf8}
use Rattle.std.proofs.lemmas.Bool.{cases_lt, false≢true}
use Rattle.std.proofs.lemmas.Str.{IsUtf8-nil, is_utf8-from_IsUtf8}
use Rattle.ht_base.specs.declared.how.How.TheVariants as how
use Rattle.ht_base.specs.declared.value.Value.TheVariants.{Text}
use Rattle.ht_aggregate.specs.Aggregates.{IsAggregate}
use Rattle.ht_aggregate.specs.Examples.{no, yes}
use Rattle.ht_aggregate.specs.Frequencies.{IsElected, IsLeastFrequent, IsMostFrequent, times}
use Rattle.ht_aggregate.specs.Joining.{IsCut}
use Rattle.ht_aggregate.proofs.Counted.{times-cons, times-other}
use Rattle.ht_aggregate.proofs.Cuts.{front_is}
use Rattle.ht_aggregate.proofs.Ranked.{one_most}
use Rattle.ht_aggregate.proofs.Members.{Contains-cons_cases, Contains-first, Contains-later, Contains-none}

-- ---- texts that are cut

half_a_character : IsUtf8 (195 ∷ []) → ⊥
unfolding is_utf8 chars
half_a_character h = false≢true (is_utf8-from_IsUtf8 (195 ∷ []) h)

-- of a character of two bytes, none is within one byte
no_half : IsCut 1 (195 ∷ 169 ∷ []) []
no_half = record {
  begins = (195 ∷ 169 ∷ [], refl);
  characters = IsUtf8-nil;
  within = omega arith;
  longest = λ longer starts utf8 more.
      elim (cases_lt 1 (length longer)) [
        | inl beyond ↦ beyond
        | inr one ↦
            let is : length longer ≡ 1 = omega arith in
            let half : longer ≡ 195 ∷ [] = sym (front_is (195 ∷ 169 ∷ []) longer starts.0 starts.1) ∙ ap (λ n. take n (195 ∷ 169 ∷ [])) is in
            absurd (half_a_character (subst IsUtf8 half utf8))
      ];
}

-- ---- texts that tie

one_of_two : (t : List ℕ) → Contains (yes ∷ no ∷ []) t → times t (yes ∷ no ∷ []) ≡ 1
one_of_two t h =
    elim (Contains-cons_cases yes (no ∷ []) t h) [
      | inl e ↦ subst (λ x. times x (yes ∷ no ∷ []) ≡ 1) e refl
      | inr later ↦ elim (Contains-cons_cases no [] t later) [
        | inl e ↦ subst (λ x. times x (yes ∷ no ∷ []) ≡ 1) e refl
        | inr none ↦ absurd (Contains-none t none)
      ]
    ]

-- each of the two is one other than the other
the_other : (t : List ℕ) → Contains (yes ∷ no ∷ []) t → (other : List ℕ) × Contains (yes ∷ no ∷ []) other × (other ≢ t)
the_other t h =
    elim (Contains-cons_cases yes (no ∷ []) t h) [
      | inl e ↦ (no, Contains-later yes (no ∷ []) no (Contains-first no []), λ same. no_is_yes (same ∙ sym e))
      | inr later ↦ elim (Contains-cons_cases no [] t later) [
        | inl e ↦ (yes, Contains-first yes (no ∷ []), λ same. no_is_yes (e ∙ sym same))
        | inr none ↦ absurd (Contains-none t none)
      ]
    ]
  where
    no_is_yes : no ≢ yes
    no_is_yes e = let lengths = ap length e in omega arith

no_most : (t : List ℕ) → IsMostFrequent (yes ∷ no ∷ []) t → ⊥
no_most t h =
    let other = the_other t h.occurs in
    omega (arith, one_of_two t h.occurs, one_of_two other.0 other.1, h.others other.0 other.2)

no_least : (t : List ℕ) → IsLeastFrequent (yes ∷ no ∷ []) t → ⊥
no_least t h =
    let other = the_other t h.occurs in
    omega (arith, one_of_two t h.occurs, one_of_two other.0 other.1, h.others other.0 other.1 other.2)

a_tie_of_the_most : IsAggregate how.MostFrequent (Text yes ∷ Text no ∷ []) (Some (Text []))
a_tie_of_the_most = inr (no_most, refl)

a_tie_of_the_least : IsAggregate how.LeastFrequent (Text yes ∷ Text no ∷ []) (Some (Text []))
a_tie_of_the_least = inr (no_least, refl)

a_tied_vote : IsAggregate (how.VoteOnString 0) (Text yes ∷ Text no ∷ []) (Some (Text []))
a_tied_vote = inr (λ t h. no_most t h.most, refl)

-- ---- texts that are elected

abbrev three : List (List ℕ)
three = yes ∷ no ∷ yes ∷ []

fewer_than_yes : (other : List ℕ) → other ≢ yes → times other three < times yes three
fewer_than_yes other apart =
    let first = times-other other yes (no ∷ yes ∷ []) (λ e. apart (sym e)) in
    let second = times-cons other no (yes ∷ []) in
    let third = times-other other yes [] (λ e. apart (sym e)) in
    let most : cond (bytes_eq no other) 1 0 ≤ 1 = elim (bytes_eq no other) as (λ b. cond b 1 0 ≤ 1) [ true ↦ omega arith | false ↦ omega arith ] in
    omega (arith, first, second, third, most)

the_most_of_three : IsMostFrequent three yes
the_most_of_three = record { occurs = Contains-first yes (no ∷ yes ∷ []); others = fewer_than_yes }

two_of_three : IsAggregate (how.VoteOnString 66) (Text yes ∷ Text no ∷ Text yes ∷ []) (Some (Text yes))
two_of_three = inl (record { most = the_most_of_three; enough = omega arith })

-- two of three are no more than 67 percent of them
too_few_of_three : IsAggregate (how.VoteOnString 67) (Text yes ∷ Text no ∷ Text yes ∷ []) (Some (Text []))
too_few_of_three = inr (few, refl) where
  few : (t : List ℕ) → IsElected 67 three t → ⊥
  few t h =
      let enough = subst (λ x. 67 * 3 < 100 * times x three) (one_most three t yes h.most the_most_of_three) h.enough in
      omega arith

-- what doesn't occur isn't least frequent
the_least_of_three : IsLeastFrequent three no
the_least_of_three = record { occurs = Contains-later yes (no ∷ yes ∷ []) no (Contains-first no (yes ∷ [])); others = more } where
  twice : (t : List ℕ) → yes ≡ t → times no three < times t three
  twice t e = subst (λ x. times no three < times x three) e (omega arith)

  more : (other : List ℕ) → Contains three other → other ≢ no → times no three < times other three
  more other occurs apart =
      elim (Contains-cons_cases yes (no ∷ yes ∷ []) other occurs) [
        | inl e ↦ twice other e
        | inr later ↦ elim (Contains-cons_cases no (yes ∷ []) other later) [
          | inl e ↦ absurd (apart (sym e))
          | inr last ↦ elim (Contains-cons_cases yes [] other last) [ inl e ↦ twice other e | inr none ↦ absurd (Contains-none other none) ]
        ]
      ]

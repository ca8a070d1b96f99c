-- The one text that occurs most often, or least often, is the only one that occurs as often as the
-- greatest, or the least, of all counts says.
use Rattle.std.proofs.Common.{◌≡◌, ◌≢◌, ℕ, ◌*◌, ◌<◌, ◌≤◌, max, min, List, [], ◌∷◌, length, map, fold, Option, Some, None, refl, sym, ap, ◌∙◌, subst, ◌⊎◌, inl, inr, arith, bytes_eq}
use Rattle.std.specs.List.{Contains}
use Rattle.std.proofs.lemmas.Bool.{cases_Bool, cases_eq, cases_lt, both_ways}
use Rattle.std.proofs.lemmas.List.Sums.{count_by-le-length}
use Rattle.std.proofs.lemmas.Slice.Eq.{bytes_eq-Decides}
use Rattle.ht_aggregate.specs.Frequencies.{IsElected, IsLeastFrequent, IsMostFrequent, times}
use Rattle.ht_aggregate.specs.Searching.{IsOneOrNone, OccursAlone, counts}
use Rattle.ht_aggregate.proofs.Counted.{one_of_times, times_of_one}
use Rattle.ht_aggregate.proofs.Members.{Contains-cons_cases, Contains-first, Contains-later, Contains-none}

pub same_or_other : (a b : List ℕ) → (a ≡ b) ⊎ (a ≢ b)
same_or_other a b = elim (cases_Bool (bytes_eq a b)) [ inl same ↦ inl ((bytes_eq-Decides a b).0 same) | inr other ↦ inr (λ e. both_ways _ other ((bytes_eq-Decides a b).1 e)) ]

-- ---- the greatest and the least of counts

module _ (f : List ℕ → ℕ) where
  above_start : (a : ℕ) (ts : List (List ℕ)) → a ≤ fold max a (map f ts)
  above_start a [] = omega arith
  above_start a (x ∷ ts) = omega (arith, above_start (max a (f x)) ts)

  above_each : (a : ℕ) (ts : List (List ℕ)) (t : List ℕ) → Contains ts t → f t ≤ fold max a (map f ts)
  above_each a [] t h = absurd (Contains-none t h)
  above_each a (x ∷ ts) t h =
      elim (Contains-cons_cases x ts t h) [
        | inl e ↦ subst (λ y. f y ≤ fold max (max a (f x)) (map f ts)) e (omega (arith, above_start (max a (f x)) ts))
        | inr later ↦ above_each (max a (f x)) ts t later
      ]

  greatest_reached : (a : ℕ) (ts : List (List ℕ)) → (fold max a (map f ts) ≡ a) ⊎ ((t : List ℕ) × Contains ts t × (f t ≡ fold max a (map f ts)))
  greatest_reached a [] = inl refl
  greatest_reached a (x ∷ ts) =
      elim (greatest_reached (max a (f x)) ts) [
        | inl here ↦ elim (cases_lt a (f x)) [
          | inl more ↦ inr (x, Contains-first x ts, omega (arith, here))
          | inr less ↦ inl (omega (arith, here))
        ]
        | inr there ↦ inr (there.0, Contains-later x ts there.0 there.1, there.2)
      ]

  below_start : (a : ℕ) (ts : List (List ℕ)) → fold min a (map f ts) ≤ a
  below_start a [] = omega arith
  below_start a (x ∷ ts) = omega (arith, below_start (min a (f x)) ts)

  below_each : (a : ℕ) (ts : List (List ℕ)) (t : List ℕ) → Contains ts t → fold min a (map f ts) ≤ f t
  below_each a [] t h = absurd (Contains-none t h)
  below_each a (x ∷ ts) t h =
      elim (Contains-cons_cases x ts t h) [
        | inl e ↦ subst (λ y. fold min (min a (f x)) (map f ts) ≤ f y) e (omega (arith, below_start (min a (f x)) ts))
        | inr later ↦ below_each (min a (f x)) ts t later
      ]

  least_reached : (a : ℕ) (ts : List (List ℕ)) → (fold min a (map f ts) ≡ a) ⊎ ((t : List ℕ) × Contains ts t × (f t ≡ fold min a (map f ts)))
  least_reached a [] = inl refl
  least_reached a (x ∷ ts) =
      elim (least_reached (min a (f x)) ts) [
        | inl here ↦ elim (cases_lt (f x) a) [
          | inl less ↦ inr (x, Contains-first x ts, omega (arith, here))
          | inr more ↦ inl (omega (arith, here))
        ]
        | inr there ↦ inr (there.0, Contains-later x ts there.0 there.1, there.2)
      ]

-- ---- most often

pub alone_is_most : (ts : List (List ℕ)) (t : List ℕ) → OccursAlone ts (fold max 0 (counts ts)) t → IsMostFrequent ts t
alone_is_most ts t h =
    let seen = times_of_one t ts h.occurs in
    let counted = h.counted in
    record {
      occurs = h.occurs;
      others = λ other apart.
          elim (cases_eq (times other ts) 0) [
            | inl none ↦ omega (arith, seen)
            | inr some ↦
                let occurs = one_of_times other ts (omega arith) in
                elim (cases_eq (times other ts) (fold max 0 (counts ts))) [
                  | inl tied ↦ absurd (apart (h.alone other occurs tied))
                  | inr fewer ↦ omega (arith, above_each (λ x. times x ts) 0 ts other occurs)
                ]
          ];
    }

pub most_is_alone : (ts : List (List ℕ)) (t : List ℕ) → IsMostFrequent ts t → OccursAlone ts (fold max 0 (counts ts)) t
most_is_alone ts t h =
    let seen = times_of_one t ts h.occurs in
    let above = above_each (λ x. times x ts) 0 ts t h.occurs in
    let counted : times t ts ≡ fold max 0 (counts ts) =
    elim (greatest_reached (λ x. times x ts) 0 ts) [
      | inl none ↦ omega (arith, above, seen)
      | inr some ↦ elim (same_or_other some.0 t) [ inl e ↦ ap (λ x. times x ts) (sym e) ∙ some.2 | inr apart ↦ omega (arith, above, some.2, h.others some.0 apart) ]
    ] in
    record {
      occurs = h.occurs;
      counted = counted;
      alone = λ other occurs tied. elim (same_or_other other t) [ inl e ↦ e | inr apart ↦ absurd (omega (arith, counted, tied, h.others other apart)) ];
    }

pub one_most : (ts : List (List ℕ)) (a b : List ℕ) → IsMostFrequent ts a → IsMostFrequent ts b → a ≡ b
one_most ts a b h k =
    elim (same_or_other a b) [ inl e ↦ e | inr apart ↦ absurd (omega (arith, h.others b (λ e. apart (sym e)), k.others a apart)) ]

-- the most frequent text, by how often it occurs among how many
pub elected_by : (percent n count : ℕ) (ts : List (List ℕ)) (t : List ℕ) → length ts ≡ n → count ≡ times t ts → IsMostFrequent ts t
    → percent * n < 100 * count → IsElected percent ts t
elected_by percent n count ts t all counted most enough = record {
  most = most;
  enough = subst (λ m. percent * m < 100 * times t ts) (sym all) (subst (λ k. percent * n < 100 * k) counted enough);
}

pub not_elected : (percent n count : ℕ) (ts : List (List ℕ)) (t : List ℕ) → length ts ≡ n → count ≡ times t ts → IsMostFrequent ts t
    → (percent * n < 100 * count → ⊥) → (other : List ℕ) → IsElected percent ts other → ⊥
not_elected percent n count ts t all counted most few other h =
    let enough = subst (λ x. percent * length ts < 100 * times x ts) (one_most ts other t h.most most) h.enough in
    few (subst (λ k. percent * n < 100 * k) (sym counted) (subst (λ m. percent * m < 100 * times t ts) all enough))

-- ---- least often

pub alone_is_least : (ts : List (List ℕ)) (a : ℕ) (t : List ℕ) → OccursAlone ts (fold min a (counts ts)) t → IsLeastFrequent ts t
alone_is_least ts a t h =
    let counted = h.counted in
    record {
      occurs = h.occurs;
      others = λ other occurs apart.
          elim (cases_eq (times other ts) (fold min a (counts ts))) [
            | inl tied ↦ absurd (apart (h.alone other occurs tied))
            | inr more ↦ omega (arith, counted, below_each (λ x. times x ts) a ts other occurs)
          ];
    }

-- no text occurs more often than there are texts
pub least_is_alone : (ts : List (List ℕ)) (a : ℕ) (t : List ℕ) → length ts ≤ a → IsLeastFrequent ts t → OccursAlone ts (fold min a (counts ts)) t
least_is_alone ts a t few h =
    let below = below_each (λ x. times x ts) a ts t h.occurs in
    let most = count_by-le-length (λ x. bytes_eq x t) ts in
    let counted : times t ts ≡ fold min a (counts ts) =
    elim (least_reached (λ x. times x ts) a ts) [
      | inl none ↦ omega (arith, below, most)
      | inr some ↦ elim (same_or_other some.0 t) [ inl e ↦ ap (λ x. times x ts) (sym e) ∙ some.2 | inr apart ↦ omega (arith, below, some.2, h.others some.0 some.1 apart) ]
    ] in
    record {
      occurs = h.occurs;
      counted = counted;
      alone = λ other occurs tied. elim (same_or_other other t) [ inl e ↦ e | inr apart ↦ absurd (omega (arith, counted, tied, h.others other occurs apart)) ];
    }

pub IsOneOrNone-like : (P Q : List ℕ → Type 0) → ((t : List ℕ) → P t → Q t) → ((t : List ℕ) → Q t → P t) → (o : Option (List ℕ)) → IsOneOrNone P o → IsOneOrNone Q o
IsOneOrNone-like P Q to from None h = λ t q. h t (from t q)
IsOneOrNone-like P Q to from (Some t) h = to t h

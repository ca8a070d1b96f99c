-- Texts joined one by one: what is joined so far, and what is still to come behind it.
use Rattle.std.proofs.Common.{◌≡◌, ℕ, List, [], ◌∷◌, ◌++◌, refl, sym, ap, ◌∙◌, append_assoc}
use Rattle.std.specs.List.{flat_map}
use Rattle.ht_aggregate.specs.Joining.{joined}

-- these texts behind others, of which `between` parts the first and the delimiter each further one
abbrev pub further : List ℕ → List ℕ → List (List ℕ) → List ℕ
further between delimiter [] = []
further between delimiter (t ∷ ts) = between ++ (t ++ flat_map (λ y. delimiter ++ y) ts)

pub further_of_all : (delimiter : List ℕ) (ts : List (List ℕ)) → further [] delimiter ts ≡ joined delimiter ts
further_of_all delimiter [] = refl
further_of_all delimiter (t ∷ ts) = refl

further_of_delimiter : (delimiter : List ℕ) (ts : List (List ℕ)) → further delimiter delimiter ts ≡ flat_map (λ y. delimiter ++ y) ts
further_of_delimiter delimiter [] = refl
further_of_delimiter delimiter (t ∷ ts) = sym (append_assoc delimiter t (flat_map (λ y. delimiter ++ y) ts))

pub one_further : (so_far between delimiter t : List ℕ) (ts : List (List ℕ))
    → ((so_far ++ between) ++ t) ++ further delimiter delimiter ts ≡ so_far ++ further between delimiter (t ∷ ts)
one_further so_far between delimiter t ts =
    ap (λ l. ((so_far ++ between) ++ t) ++ l) (further_of_delimiter delimiter ts)
    ∙ append_assoc (so_far ++ between) t (flat_map (λ y. delimiter ++ y) ts)
    ∙ append_assoc so_far between (t ++ flat_map (λ y. delimiter ++ y) ts)

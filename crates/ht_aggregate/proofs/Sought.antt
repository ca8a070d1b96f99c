-- A search for the one text that occurs so many times: what is found of the texts that were looked at,
-- and what is left.
use Rattle.std.proofs.Common.{◌≡◌, ◌≢◌, ℕ, Bool, true, false, not, bytes_eq, List, [], ◌∷◌, Option, Some, None, IfSome, sym, ap, ◌∙◌, ◌⊎◌, inl, inr}
use Rattle.std.specs.List.{Contains}
use Rattle.std.specs.Option.{option_map_or}
use Rattle.std.proofs.lemmas.Bool.{both_ways, false≢true, not-false, not-true}
use Rattle.std.proofs.lemmas.Slice.Eq.{bytes_eq-Decides}
use Rattle.ht_aggregate.specs.Frequencies.{times}
use Rattle.ht_aggregate.specs.Searching.{IsOneOrNone, OccursAlone}
use Rattle.ht_aggregate.proofs.Members.{Contains-cons_cases, Contains-first, Contains-later, Contains-none}

pub record IsSought (all : List (List ℕ)) (count : ℕ) (found : Option (List ℕ)) (rest : List (List ℕ)) : Type 0 where
  pub within : (t : List ℕ) → Contains rest t → Contains all t
  pub held : IfSome found (λ x. Contains all x × (times x all ≡ count))
  pub left : (t : List ℕ) → Contains all t → times t all ≡ count → (found ≡ Some t) ⊎ Contains rest t

pub sought_first : (all : List (List ℕ)) (count : ℕ) → IsSought all count None all
sought_first all count = record { within = λ t h. h; held = tt; left = λ t h e. inr h }

pub sought_past : (all : List (List ℕ)) (count : ℕ) (found : Option (List ℕ)) (y : List ℕ) (rest : List (List ℕ))
    → IsSought all count found (y ∷ rest) → times y all ≢ count → IsSought all count found rest
sought_past all count found y rest h other = record {
  within = λ t later. h.within t (Contains-later y rest t later);
  held = h.held;
  left = λ t occurs counted.
      elim (h.left t occurs counted) [
        | inl was ↦ inl was
        | inr further ↦ elim (Contains-cons_cases y rest t further) [ inl e ↦ absurd (other (ap (λ x. times x all) e ∙ counted)) | inr later ↦ inr later ]
      ];
}

-- a text is found that isn't this one
abbrev pub is_other : Option (List ℕ) → List ℕ → Bool
is_other found y = option_map_or (λ t. not (bytes_eq t y)) found false

same_found : (found : Option (List ℕ)) (y : List ℕ) → is_other found y ≡ false → (x : List ℕ) → found ≡ Some x → x ≡ y
same_found None y none x e = absurd cc
same_found (Some z) y none x e =
    let is : z ≡ x = cc in
    sym is ∙ (bytes_eq-Decides z y).0 (not-false (bytes_eq z y) none)

pub sought_found : (all : List (List ℕ)) (count : ℕ) (found : Option (List ℕ)) (y : List ℕ) (rest : List (List ℕ))
    → IsSought all count found (y ∷ rest) → times y all ≡ count → is_other found y ≡ false → IsSought all count (Some y) rest
sought_found all count found y rest h counts none = record {
  within = λ t later. h.within t (Contains-later y rest t later);
  held = (h.within y (Contains-first y rest), counts);
  left = λ t occurs counted.
      elim (h.left t occurs counted) [
        | inl was ↦ inl (ap Some (sym (same_found found y none t was)))
        | inr further ↦ elim (Contains-cons_cases y rest t further) [ inl e ↦ inl (ap Some e) | inr later ↦ inr later ]
      ];
}

pub sought_two : (all : List (List ℕ)) (count : ℕ) (found : Option (List ℕ)) (y : List ℕ) (rest : List (List ℕ))
    → IsSought all count found (y ∷ rest) → times y all ≡ count → is_other found y ≡ true → (t : List ℕ) → OccursAlone all count t → ⊥
sought_two all count None y rest h counts other t one = false≢true other
sought_two all count (Some x) y rest h counts other t one =
    let same : x ≡ y = one.alone x h.held.0 h.held.1 ∙ sym (one.alone y (h.within y (Contains-first y rest)) counts) in
    both_ways (bytes_eq x y) (not-true (bytes_eq x y) other) ((bytes_eq-Decides x y).1 same)

pub sought_all : (all : List (List ℕ)) (count : ℕ) (found : Option (List ℕ)) → IsSought all count found [] → IsOneOrNone (OccursAlone all count) found
sought_all all count None h = λ t one. elim (h.left t one.occurs one.counted) [ inl e ↦ absurd cc | inr none ↦ absurd (Contains-none t none) ]
sought_all all count (Some x) h = record {
  occurs = h.held.0;
  counted = h.held.1;
  alone = λ t occurs counted. elim (h.left t occurs counted) [ inl e ↦ let is : x ≡ t = cc in sym is | inr none ↦ absurd (Contains-none t none) ];
}

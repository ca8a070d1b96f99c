-- What is among the elements of a list, one by one.
use Rattle.std.proofs.Common.{◌≡◌, List, [], ◌∷◌, ◌⊎◌, inl, inr, arith}
use Rattle.std.specs.List.{Contains}
use Rattle.std.proofs.lemmas.List.Elements.{Contains-append_cases, Contains-append_left, Contains-append_right, Contains-push, Contains-push_cases}

pub Contains-none : {X : Type 0} (y : X) → Contains [] y → ⊥
Contains-none y h = let none = h.1 in absurd (omega arith)

pub Contains-first : {X : Type 0} (x : X) (xs : List X) → Contains (x ∷ xs) x
Contains-first x xs = Contains-append_left (x ∷ []) xs x (Contains-push [] x)

pub Contains-later : {X : Type 0} (x : X) (xs : List X) (y : X) → Contains xs y → Contains (x ∷ xs) y
Contains-later x xs y h = Contains-append_right (x ∷ []) xs y h

pub Contains-cons_cases : {X : Type 0} (x : X) (xs : List X) (y : X) → Contains (x ∷ xs) y → (x ≡ y) ⊎ Contains xs y
Contains-cons_cases {X} x xs y h =
    let single : Contains (x ∷ []) y → x ≡ y = λ one. elim (Contains-push_cases [] x y one) [ inl none ↦ absurd (Contains-none y none) | inr e ↦ e ] in
    elim (Contains-append_cases (x ∷ []) xs y h) [ inl one ↦ inl (single one) | inr later ↦ inr later ]

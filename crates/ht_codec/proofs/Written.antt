-- Items written one after the other, as a loop does.
use Rattle.std.proofs.Common.{◌≡◌, ℕ, ◌+◌, ◌<◌, List, [], ◌∷◌, ◌++◌, length, get_or, take, sym, ap, ◌∙◌, append_assoc}
use Rattle.std.specs.List.{flat_map}
use Rattle.std.proofs.lemmas.List.{append-nil, take_more}
use Rattle.std.proofs.lemmas.List.Concat.{flat_map-append, flat_map-cons}

pub written_more : {X : Type 0} (f : X → List ℕ) (old head : List ℕ) (xs : List X) (i : ℕ) (x : X) (mid new : List ℕ) → i < length xs → x ≡ get_or xs i x
    → mid ≡ old ++ (head ++ flat_map f (take i xs)) → new ≡ mid ++ f x → new ≡ old ++ (head ++ flat_map f (take (i + 1) xs))
written_more {X} f old head xs i x mid new lt is so_far more =
    let grown : take (i + 1) xs ≡ take i xs ++ x ∷ [] = take_more xs i x lt ∙ ap (λ (y : X). take i xs ++ y ∷ []) (sym is) in
    let one : flat_map f (take (i + 1) xs) ≡ flat_map f (take i xs) ++ f x = ap (flat_map f) grown ∙ flat_map-append f (take i xs) (x ∷ []) ∙ ap (λ (l : List ℕ). flat_map f (take i xs) ++ l) (flat_map-cons f x [] ∙ append-nil (f x)) in
    more ∙ ap (λ (l : List ℕ). l ++ f x) so_far ∙ append_assoc old (head ++ flat_map f (take i xs)) (f x)
    ∙ ap (λ (l : List ℕ). old ++ l) (append_assoc head (flat_map f (take i xs)) (f x) ∙ ap (λ (l : List ℕ). head ++ l) (sym one))

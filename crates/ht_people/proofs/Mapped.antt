-- A list that a loop maps, element by element.
use Rattle.std.proofs.Common.{◌≡◌, ◌∙◌, ◌+◌, ℕ, List, [], ◌∷◌, ◌++◌, Some, ap, map, take}
use Rattle.std.specs.Prelude.{slice_get}
use Rattle.std.proofs.lemmas.List.{map-append, take_more}
use Rattle.std.proofs.lemmas.Option.{get_or_from_slice_get, slice_get_within}

pub mapped_more : {A B : Type 0} (f : A → B) (xs : List A) (i : ℕ) (x : A) (y : B) → slice_get xs i ≡ Some x → f x ≡ y → map f (take (i + 1) xs) ≡ map f (take i xs) ++ y ∷ []
mapped_more {A} {B} f xs i x y at is =
    let put : take (i + 1) xs ≡ take i xs ++ x ∷ [] = take_more xs i x (slice_get_within xs i x at) ∙ ap (λ (z : A). take i xs ++ z ∷ []) (get_or_from_slice_get xs i x x at) in
    ap (map f) put ∙ map-append f (take i xs) (x ∷ []) ∙ ap (λ (z : B). map f (take i xs) ++ z ∷ []) is

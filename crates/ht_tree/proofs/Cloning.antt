-- Copies of a list's items that show the same.
use Rattle.std.proofs.Common.{◌≡◌, ℕ, ◌+◌, ◌<◌, List, [], ◌∷◌, ◌++◌, length, map, take, get_or, ap, sym, subst, ◌∙◌}
use Rattle.std.proofs.lemmas.List.{map-append, take-map, take_more}

-- one copy more
pub cloned : {A B : Type 0} (f : A → B) (xs items new : List A) (vs : List B) (i : ℕ) (x y : A) → map f xs ≡ vs → map f items ≡ take i vs → i < length xs → x ≡ get_or xs i x → f y ≡ f x → new ≡ items ++ y ∷ [] → map f new ≡ take (i + 1) vs
cloned {B = B} f xs items new vs i x y shown so_far within is same pushed =
    let more : take (i + 1) (map f xs) ≡ take i (map f xs) ++ f x ∷ [] = take-map f (i + 1) xs ∙ ap (λ l. map f l) (take_more xs i x within) ∙ map-append f (take i xs) (get_or xs i x ∷ []) ∙ ap (λ z. map f (take i xs) ++ f z ∷ []) (sym is) ∙ ap (λ l. l ++ f x ∷ []) (sym (take-map f i xs)) in
    let front : map f items ≡ take i (map f xs) = so_far ∙ ap (λ ws. take i ws) (sym shown) in
    let all : map f new ≡ take (i + 1) (map f xs) = ap (λ l. map f l) pushed ∙ map-append f items (y ∷ []) ∙ ap (λ l. l ++ f y ∷ []) front ∙ ap (λ z. take i (map f xs) ++ z ∷ []) same ∙ sym more in
    let P : List B → Type 0 = λ ws. map f new ≡ take (i + 1) ws in
    subst P shown all

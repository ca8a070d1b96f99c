-- One value more of those of one kind.
use Rattle.std.proofs.Common.{◌≡◌, ℕ, ◌+◌, ◌<◌, ◌≤◌, List, [], ◌∷◌, length, get_or, drop, Option, Some, None, sym, ap, ◌∙◌, arith}
use Rattle.std.specs.List.{cons_option, filter_map}
use Rattle.std.proofs.lemmas.List.{at_drop_more}

pub given_more : {X Y : Type 0} (f : X → Option Y) (xs : List X) (i : ℕ) (x : X) (o : Option Y) → i < length xs → x ≡ get_or xs i x → o ≡ f x
    → filter_map f (drop i xs) ≡ cons_option o (filter_map f (drop (i + 1) xs))
given_more f xs i x o within is held =
    at_drop_more (filter_map f) xs i x within
    ∙ ap (λ y. cons_option (f y) (filter_map f (drop (i + 1) xs))) (sym is)
    ∙ ap (λ y. cons_option y (filter_map f (drop (i + 1) xs))) (sym held)

length-cons_option : {Y : Type 0} (o : Option Y) (ys : List Y) → length (cons_option o ys) ≤ length ys + 1
length-cons_option None ys = omega arith
length-cons_option (Some y) ys = omega arith

pub length-filter_map : {X Y : Type 0} (f : X → Option Y) (xs : List X) → length (filter_map f xs) ≤ length xs
length-filter_map f [] = omega arith
length-filter_map f (x ∷ xs) = omega (arith, length-cons_option (f x) (filter_map f xs), length-filter_map f xs)

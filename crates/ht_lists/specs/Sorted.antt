-- Lists in order.
use Rattle.std.specs.Prelude.{List, [], ◌∷◌, fold}
use Rattle.std.specs.Ordering.{match_ordering}
use Rattle.std.specs.declared.cmp.Ordering.{Ordering}

-- these, with this one behind all in front that don't come after it
abbrev pub put_by : {A : Type 0} → (A → A → Ordering) → List A → A → List A
put_by cmp [] x = x ∷ []
put_by cmp (y ∷ ys) x = match_ordering (cmp x y) (x ∷ y ∷ ys) (y ∷ put_by cmp ys x) (y ∷ put_by cmp ys x)

-- in order; those that tie stay in the order that they had
abbrev pub sorted_by : {A : Type 0} → (A → A → Ordering) → List A → List A
sorted_by cmp xs = fold (put_by cmp) [] xs

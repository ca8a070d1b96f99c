-- Lists in the order of keys, with one element at most of each key.
use Rattle.std.specs.Prelude.{◌≡◌, List, [], ◌∷◌, ◌++◌, filter, find, Option}
use Rattle.std.specs.declared.cmp.Ordering.{Ordering}
use Rattle.std.specs.declared.cmp.Ordering.TheVariants.{Less}
use Rattle.std.specs.List.{AllByRecursion}
use Rattle.std.specs.Ordering.{is_eq, is_gt, is_lt}

-- each stands before those behind it
abbrev pub AscendBy : {A : Type 0} → (A → A → Ordering) → List A → Type 0
AscendBy cmp [] = Unit {0}
AscendBy cmp (x ∷ xs) = AllByRecursion (λ y. cmp x y ≡ Less) xs × AscendBy cmp xs

-- An order tells of each element whether it stands before a place, in it, or behind it.

-- the element in the place
abbrev pub found_by : {A : Type 0} → (A → Ordering) → List A → Option A
found_by order xs = find (λ x. is_eq (order x)) xs

-- those before the place, this one in it, and those behind it
abbrev pub placed_by : {A : Type 0} → (A → Ordering) → A → List A → List A
placed_by order x xs = filter (λ y. is_lt (order y)) xs ++ x ∷ filter (λ y. is_gt (order y)) xs

-- Values of parts, or what is given for them, in ascending order of their names.
use Rattle.std.specs.Prelude.{ℕ, ◌+◌, Bool, false, List, [], ◌∷◌, bytes_eq, find, slice_get, Option, option_map, if◌then◌else◌, IsTrue}
use Rattle.std.specs.Option.{option_map_or}
use Rattle.std.specs.Ordering.{is_lt, nat_cmp}
use Rattle.std.specs.Cmp.Lexicographic.{slice_cmp}

-- the one name stands before the other, byte by byte
abbrev pub is_before : List ℕ → List ℕ → Bool
is_before a b = is_lt (slice_cmp nat_cmp a b)

-- the name stands behind the last one
abbrev pub IsBehind : {A : Type 0} → List ℕ → List (List ℕ × A) → Type 0
IsBehind name [] = Unit {0}
IsBehind name (v ∷ []) = IsTrue (is_before v.0 name)
IsBehind name (v ∷ w ∷ vs) = IsBehind name (w ∷ vs)

-- each name stands before the next
abbrev pub Ascend : {A : Type 0} → List (List ℕ × A) → Type 0
Ascend [] = Unit {0}
Ascend (v ∷ []) = Unit {0}
Ascend (v ∷ w ∷ vs) = IsTrue (is_before v.0 w.0) × Ascend (w ∷ vs)

-- ---- one of them

-- the value of this name
abbrev pub value_of : {A : Type 0} → List ℕ → List (List ℕ × A) → Option A
value_of name vs = option_map (λ v. v.1) (find (λ v. bytes_eq v.0 name) vs)

-- how many stand in front of this name
abbrev pub rank : {A : Type 0} → List ℕ → List (List ℕ × A) → ℕ
rank name [] = 0
rank name (v ∷ vs) = if is_before v.0 name then rank name vs + 1 else 0

-- the value at this place has this name
abbrev pub stands_at : {A : Type 0} → List ℕ → ℕ → List (List ℕ × A) → Bool
stands_at name place vs = option_map_or (λ v. bytes_eq v.0 name) (slice_get vs place) false

-- ---- other values

-- with this value in the place of its name, and without another that was there
abbrev pub put : {A : Type 0} → List ℕ → A → List (List ℕ × A) → List (List ℕ × A)
put name value [] = (name, value) ∷ []
put name value (v ∷ vs) =
    if is_before v.0 name
    then v ∷ put name value vs
    else (if bytes_eq v.0 name then (name, value) ∷ vs else (name, value) ∷ v ∷ vs)

-- with each of the given ones
abbrev pub updated : {A : Type 0} → List (List ℕ × A) → List (List ℕ × A) → List (List ℕ × A)
updated vs [] = vs
updated vs (g ∷ given) = updated (put g.0 g.1 vs) given

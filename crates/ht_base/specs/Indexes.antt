-- An index over a list of keys: at each key its first place.
use Rattle.std.specs.Prelude.{◌≡◌, ℕ, ◌+◌, List, [], ◌∷◌, Option, Some, None, option_map, if◌then◌else◌}
use Rattle.std.specs.BTreeMap.{BTreeMap, get}
use Rattle.std.specs.Cmp.Lexicographic.{slice_cmp}
use Rattle.std.specs.Ordering.{is_eq, nat_cmp}
use Rattle.std.specs.declared.cmp.Ordering.{Ordering}
use Rattle.ht_base.specs.Places.{place_in}

-- the first place of a key
abbrev pub place_by : {K : Type 0} → (K → K → Ordering) → K → List K → Option ℕ
place_by cmp key [] = None
place_by cmp key (k ∷ ks) = if is_eq (cmp k key) then Some 0 else option_map (λ i. i + 1) (place_by cmp key ks)

abbrev pub IsIndexBy : {K : Type 0} → (K → K → Ordering) → BTreeMap K ℕ → List K → Type 0
IsIndexBy {K} cmp places keys = (key : K) → get cmp places key ≡ place_by cmp key keys

-- an index over names
abbrev pub IsIndex : BTreeMap (List ℕ) ℕ → List (List ℕ) → Type 0
IsIndex places names = (name : List ℕ) → get (slice_cmp nat_cmp) places name ≡ place_in name names

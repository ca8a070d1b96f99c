-- What one walk over the fields of a head keeps of those that it has seen.
use Rattle.std.specs.Prelude.{◌≡◌, ℕ, Bool, true, false, ◌||◌, List, [], Option, Some, None, if◌then◌else◌, codes}
use Rattle.std.specs.Str.{str_eq_ignore_ascii_case}
use Rattle.ht_wire.specs.Fields.{is_nothing, only, values_of}

-- the first value, where this one may be one
abbrev pub kept : Option (List ℕ) → Bool → List ℕ → Option (List ℕ)
kept (Some first) is_one value = Some first
kept None is_one value = if is_one then Some value else None

-- the only value, where these follow the first
abbrev pub only_after : Bool → Option (List ℕ) → List (List ℕ) → Option (List ℕ)
only_after true first rest = None
only_after false None rest = only rest
only_after false (Some first) rest = if is_nothing rest then Some first else None

-- the name of a field that speaks of a body
abbrev pub is_of_body : List ℕ → Bool
is_of_body name = str_eq_ignore_ascii_case name (codes "content-length") || str_eq_ignore_ascii_case name (codes "transfer-encoding")

-- no field speaks of a body
abbrev pub IsBare : List (List ℕ × List ℕ) → Type 0
IsBare fields = (values_of (codes "transfer-encoding") fields ≡ []) × (values_of (codes "content-length") fields ≡ [])

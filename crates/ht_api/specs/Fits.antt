-- Which values of a body fit, and as what.
use Rattle.std.specs.Prelude.{ℕ, ◌&&◌, not, nat_lt, nat_le, nat_eq, Bool, true, List, [], ◌∷◌, length, bytes_eq, codes, Option, Some, None, option_map, option_and_then, if◌then◌else◌}
use Rattle.std.specs.Cmp.Lexicographic.{pointwise}
use Rattle.std.specs.List.{list_any}
use Rattle.serde_json.specs.Data.{Data, null, boolean, number, string, array, object, Items, no_items, item, Members, no_members, member}
use Rattle.serde_json.specs.Find.{as_str, as_number, as_array, as_object, as_u64, as_i64}
use Rattle.ht_base.specs.Moment.{last_moment}
use Rattle.ht_base.specs.Name.{name_of}
use Rattle.ht_base.specs.Periods.{period_of}
use Rattle.ht_base.specs.declared.limits.TheConstants.{LAST_DEVICE, LAST_NUMBER, LONGEST_TEXT, LOWEST_PRIORITY, MOST_NAMES, MOST_PARTS}
use Rattle.ht_base.specs.declared.moment.Moment.{Moment}
use Rattle.ht_base.specs.declared.role_list.RoleList.{RoleList}
use Rattle.ht_base.specs.declared.role_list.RoleList.TheVariants.{PotentialOwners, ExcludedOwners, Administrators, Stakeholders}
use Rattle.ht_base.specs.declared.scalar.Scalar.{Scalar}
use Rattle.ht_base.specs.declared.scalar.Scalar.TheVariants.{Text, Int, Truth}

-- a text that is a name
abbrev pub name_in : Data → Option (List ℕ)
name_in d = option_and_then name_of (as_str d)

abbrev pub role_named : List ℕ → Option RoleList
role_named text =
    if bytes_eq text (codes "potentialOwners") then Some PotentialOwners
    else (if bytes_eq text (codes "excludedOwners") then Some ExcludedOwners
    else (if bytes_eq text (codes "administrators") then Some Administrators
    else (if bytes_eq text (codes "stakeholders") then Some Stakeholders
    else None)))

abbrev pub role_in : Data → Option RoleList
role_in d = option_and_then role_named (as_str d)

-- a whole number that is at least the one and at most the other
abbrev pub whole_if : ℕ → ℕ → ℕ → Option ℕ
whole_if least most n = if nat_le least n && nat_le n most then Some n else None

abbrev pub whole_in : ℕ → ℕ → Data → Option ℕ
whole_in least most d = option_and_then (whole_if least most) (option_and_then as_u64 (as_number d))

abbrev pub device_in : Data → Option ℕ
device_in d = whole_in 0 LAST_DEVICE d

abbrev pub number_in : Data → Option ℕ
number_in d = whole_in 1 LAST_NUMBER d

abbrev pub priority_in : Data → Option ℕ
priority_in d = whole_in 0 LOWEST_PRIORITY d

-- a moment up to the last
abbrev pub moment_in : Data → Option Moment
moment_in d = option_map (λ n. record { 0 = n }) (whole_in 0 last_moment d)

-- the milliseconds of a text that is a period
abbrev pub period_in : Data → Option ℕ
period_in d = option_and_then period_of (as_str d)

-- a text of a byte at least, and at most as many as a text may have
abbrev pub text_if : List ℕ → Option (List ℕ)
text_if text = if nat_lt 0 (length text) && nat_le (length text) LONGEST_TEXT then Some text else None

abbrev pub text_in : Data → Option (List ℕ)
text_in d = option_and_then text_if (as_str d)

-- a list that isn't empty
abbrev pub if_any : {A : Type 0} → List A → Option (List A)
if_any xs = if nat_lt 0 (length xs) then Some xs else None

-- ---- persons

-- the names that the items are, if each is one
abbrev pub names_of : Items → Option (List (List ℕ))
names_of no_items = Some []
names_of (item d ds) = option_and_then (λ name. option_map (λ more. name ∷ more) (names_of ds)) (name_in d)

abbrev pub holds_name : List ℕ → List (List ℕ) → Bool
holds_name name names = list_any (λ n. pointwise nat_eq n name) names

-- no name stands twice
abbrev pub are_distinct : List (List ℕ) → Bool
are_distinct [] = true
are_distinct (n ∷ ns) = not (holds_name n ns) && are_distinct ns

abbrev pub persons_if : List (List ℕ) → Option (List (List ℕ))
persons_if names = if nat_le (length names) MOST_NAMES && are_distinct names then Some names else None

-- distinct names, and at most as many as a list may have
abbrev pub persons_in : Data → Option (List (List ℕ))
persons_in d = option_and_then persons_if (option_and_then names_of (as_array d))

-- at least one
abbrev pub owners_in : Data → Option (List (List ℕ))
owners_in d = option_and_then if_any (persons_in d)

-- ---- parts

-- a text that isn't too long, a whole number of 64 bits, or a truth
abbrev pub scalar_in : Data → Option Scalar
scalar_in null = None
scalar_in (boolean b) = Some (Truth b)
scalar_in (number n) = option_map Int (as_i64 n)
scalar_in (string s) = if nat_le (length s) LONGEST_TEXT then Some (Text s) else None
scalar_in (array ds) = None
scalar_in (object ms) = None

-- what is given for the part of this name
abbrev pub part_in : List ℕ → Data → Option (List ℕ × Scalar)
part_in key d = option_and_then (λ name. option_map (λ value. (name, value)) (scalar_in d)) (name_of key)

-- the parts that the members are, if each is one
abbrev pub parts_of : Members → Option (List (List ℕ × Scalar))
parts_of no_members = Some []
parts_of (member k d ms) = option_and_then (λ part. option_map (λ more. part ∷ more) (parts_of ms)) (part_in k d)

abbrev pub parts_if : List (List ℕ × Scalar) → Option (List (List ℕ × Scalar))
parts_if parts = if nat_le (length parts) MOST_PARTS then Some parts else None

-- at most as many parts as a model may have
abbrev pub parts_in : Data → Option (List (List ℕ × Scalar))
parts_in d = option_and_then parts_if (option_and_then parts_of (as_object d))

-- at least one
abbrev pub some_parts_in : Data → Option (List (List ℕ × Scalar))
some_parts_in d = option_and_then if_any (parts_in d)

-- What a table says at a key: of the value there by its shape, and where there is none. A value of
-- another shape says nothing.
use Rattle.std.specs.Prelude.{ℕ, ◌+◌, ◌==◌, Bool, true, false, List, [], ◌∷◌, Option, Some, None, option_map, if◌then◌else◌}
use Rattle.std.specs.Option.{option_and_then}
use Rattle.toml.specs.Data.{Data, Members, get_member}
use Rattle.ht_toml.specs.Tables.{has_only}

-- the key must be there
abbrev pub required : {A : Type 0} → (Data → Option A) → List ℕ → Members → Option A
required of key ms = option_and_then of (get_member key ms)

-- the key may be missing, and then there is none
abbrev pub if_any : {A : Type 0} → (Data → Option A) → Option Data → Option (Option A)
if_any of None = Some None
if_any of (Some d) = option_map Some (of d)

abbrev pub optional : {A : Type 0} → (Data → Option A) → List ℕ → Members → Option (Option A)
optional of key ms = if_any of (get_member key ms)

-- the key may be missing, and then it is this
abbrev pub or_this : {A : Type 0} → A → (Data → Option A) → Option Data → Option A
or_this missing of None = Some missing
or_this missing of (Some d) = of d

abbrev pub otherwise : {A : Type 0} → A → (Data → Option A) → List ℕ → Members → Option A
otherwise missing of key ms = or_this missing of (get_member key ms)

-- ---- several keys together

-- one more value, where it and all before it are there
infixl 10 ◌also◌
abbrev pub ◌also◌ : {A B : Type 0} → Option (A → B) → Option A → Option B
None also value = None
(Some f) also value = option_map f value

-- what is said of what was said
abbrev pub joined : {A : Type 0} → Option (Option A) → Option A
joined None = None
joined (Some said) = said

-- what is said counts where it meets a rule
abbrev pub under : {A : Type 0} → (A → Bool) → Option A → Option A
under rule None = None
under rule (Some a) = if rule a then Some a else None

-- how many of these are there
abbrev pub count : List Bool → ℕ
count [] = 0
count (true ∷ bs) = count bs + 1
count (false ∷ bs) = count bs

-- exactly one of these keys is there
abbrev pub exactly_one : List Bool → Bool
exactly_one given = count given == 1

-- a table of these keys alone
abbrev pub keyed : {A : Type 0} → List (List ℕ) → (Members → Option A) → Members → Option A
keyed known values ms = if has_only known ms then values ms else None

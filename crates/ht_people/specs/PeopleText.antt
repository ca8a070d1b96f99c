-- What a people text says, by the shape of its document: persons, and groups with their members
-- (people assignment, WS-HumanTask 1.1, 3.5).
use Rattle.std.specs.Prelude.{◌≡◌, ◌⊎◌, ℕ, ◌==◌, ◌&&◌, Bool, false, List, [], ◌∷◌, length, Option, None, is_some, option_map, unwrap_or, codes, if◌then◌else◌}
use Rattle.std.specs.Option.{option_and_then}
use Rattle.toml.specs.Data.{Data, Members, as_bool, as_str, as_table}
use Rattle.ht_base.specs.Name.{name_of}
use Rattle.ht_base.specs.Places.{Behind}
use Rattle.ht_toml.specs.Entries as shape
use Rattle.ht_toml.specs.Entries.{each}
use Rattle.ht_toml.specs.Keys.{◌also◌, keyed, otherwise, required}
use Rattle.ht_toml.specs.Tables.{entries_of, has_only}
use Rattle.ht_toml.specs.Values.{list_of, named}
use Rattle.ht_people.specs.declared.entries.MemberName.{MemberName}
use Rattle.ht_people.specs.declared.entries.MemberName.TheVariants as member
use Rattle.ht_people.specs.declared.entries.PersonEntry.{PersonEntry}

-- a group and its members, as they are written
pub record GroupText : Type 0 where
  pub name : List ℕ
  pub members : List MemberName

pub record PeopleTextOf : Type 0 where
  pub persons : List PersonEntry
  pub groups : List GroupText

-- a member is a person's name, or @ and a group's name
abbrev pub member_of_text : List ℕ → Option MemberName
member_of_text [] = None
member_of_text (c ∷ rest) = if c == 64 then option_map member.Group (name_of rest) else option_map member.Person (name_of (c ∷ rest))

abbrev pub member_of : Data → Option MemberName
member_of d = option_and_then member_of_text (as_str d)

-- a person has a name, and may be marked as an operator
abbrev pub person_with : List ℕ → Bool → PersonEntry
person_with name operator = record { name = name; operator = operator }

abbrev pub person_values : Members → Option PersonEntry
person_values ms = option_map person_with (required named (codes "name") ms) also otherwise false as_bool (codes "operator") ms

abbrev pub person_in : Members → Option PersonEntry
person_in ms = keyed (codes "name" ∷ codes "operator" ∷ []) person_values ms

abbrev pub person_of : Data → Option PersonEntry
person_of d = option_and_then person_in (as_table d)

-- a group has a name and members
abbrev pub group_with : List ℕ → List MemberName → GroupText
group_with name members = record { name = name; members = members }

abbrev pub members_in : Members → Option (List MemberName)
members_in ms = required (list_of member_of) (codes "members") ms

abbrev pub group_values : Members → Option GroupText
group_values ms = option_map group_with (required named (codes "name") ms) also members_in ms

abbrev pub group_in : Members → Option GroupText
group_in ms = keyed (codes "name" ∷ codes "members" ∷ []) group_values ms

abbrev pub group_of : Data → Option GroupText
group_of d = option_and_then group_in (as_table d)

-- the entries of the arrays person and group, of which either may be missing
abbrev pub entries_at : List ℕ → Members → Option (List Data)
entries_at key ms = otherwise [] entries_of key ms

abbrev pub person_entries : Members → List Data
person_entries ms = unwrap_or (entries_at (codes "person") ms) []

abbrev pub group_entries : Members → List Data
group_entries ms = unwrap_or (entries_at (codes "group") ms) []

-- there are no other keys, and the values of these are arrays
abbrev pub is_top : Members → Bool
is_top ms =
    has_only (codes "person" ∷ codes "group" ∷ []) ms
    && is_some (entries_at (codes "person") ms)
    && is_some (entries_at (codes "group") ms)

-- what the document says, where all of it has its shape
abbrev pub people_text : List PersonEntry → List GroupText → PeopleTextOf
people_text persons groups = record { persons = persons; groups = groups }

abbrev pub read_entries : List Data → List Data → Option PeopleTextOf
read_entries persons groups = option_and_then (λ ps. option_map (people_text ps) (each group_of groups)) (each person_of persons)

abbrev pub text_of : Members → Option PeopleTextOf
text_of ms = if is_top ms then read_entries (person_entries ms) (group_entries ms) else None

-- an entry has another shape, persons first and then groups
abbrev pub HasShapeFault : List Data → List Data → ℕ → Type 0
HasShapeFault persons groups place = shape.IsMisshapen person_of persons place ⊎ Behind (length persons) (shape.IsMisshapen group_of groups) place

-- or at place 0 the document has
abbrev pub IsMisshapen : Members → ℕ → Type 0
IsMisshapen ms place = ((is_top ms ≡ false) × (place ≡ 0)) ⊎ HasShapeFault (person_entries ms) (group_entries ms) place

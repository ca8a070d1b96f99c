-- The directory: persons and groups, each named by its place, persons first and then groups (people
-- assignment, WS-HumanTask 1.1, 3.5).
use Rattle.std.specs.Prelude.{ℕ, ◌+◌, ◌-◌, nat_lt, List, [], length, map, Option, option_map, filter_map, slice_get, if◌then◌else◌}
use Rattle.std.specs.Option.{option_map_or}
use Rattle.ht_base.specs.Places.{place_in}
use Rattle.ht_people.specs.declared.entries.MemberName.{MemberName}
use Rattle.ht_people.specs.declared.entries.MemberName.TheVariants as member
use Rattle.ht_people.specs.declared.entries.PersonEntry.{PersonEntry}
use Rattle.ht_people.specs.PeopleText.{GroupText, PeopleTextOf}

-- a group, and the places of its members
pub record GroupOf : Type 0 where
  pub name : List ℕ
  pub members : List ℕ

pub record DirectoryOf : Type 0 where
  pub persons : List PersonEntry
  pub groups : List GroupOf

-- ---- of a text

abbrev pub person_names : PeopleTextOf → List (List ℕ)
person_names t = map (λ p. p.name) t.persons

abbrev pub group_names : PeopleTextOf → List (List ℕ)
group_names t = map (λ g. g.name) t.groups

-- the place of the person or of the group that a member names
abbrev pub place_of : PeopleTextOf → MemberName → Option ℕ
place_of t (member.Person name) = place_in name (person_names t)
place_of t (member.Group name) = option_map (λ i. length t.persons + i) (place_in name (group_names t))

-- an unknown member is a member of nobody
abbrev pub group_from : PeopleTextOf → GroupText → GroupOf
group_from t g = record { name = g.name; members = filter_map (place_of t) g.members }

abbrev pub directory_of : PeopleTextOf → DirectoryOf
directory_of t = record { persons = t.persons; groups = map (group_from t) t.groups }

-- ---- of a directory

-- the person with this name
abbrev pub find : List ℕ → DirectoryOf → Option ℕ
find name d = place_in name (map (λ p. p.name) d.persons)

-- the place of the group with this name
abbrev pub find_group : List ℕ → DirectoryOf → Option ℕ
find_group name d = option_map (λ i. length d.persons + i) (place_in name (map (λ g. g.name) d.groups))

-- how many places there are
abbrev pub places : DirectoryOf → ℕ
places d = length d.persons + length d.groups

-- the members of the group at a place, of which a person has none
abbrev pub members_at : DirectoryOf → ℕ → List ℕ
members_at d place = if nat_lt place (length d.persons) then [] else option_map_or (λ g. g.members) (slice_get d.groups (place - length d.persons)) []

-- Who is in a group: the persons to whom a chain of memberships leads from it.
use Rattle.std.specs.Prelude.{ℕ, Bool, false, List, length, filter, Option, Some, None}
use Rattle.std.specs.List.{range_with_len}
use Rattle.ht_base.specs.declared.limits.TheConstants.{LONGEST_CHAIN}
use Rattle.ht_graph.specs.Graphs.{is_near}
use Rattle.ht_people.specs.Directory.{DirectoryOf, find_group, members_at}

-- every person, in ascending order
abbrev pub everybody : DirectoryOf → List ℕ
everybody d = range_with_len 0 (length d.persons)

-- a chain of at least one membership, and no longer than chains may be, leads to the person
abbrev pub is_reached : DirectoryOf → ℕ → ℕ → Bool
is_reached d place person = is_near (members_at d) LONGEST_CHAIN place person

-- the person is in the group of this name. An unknown group is empty
abbrev pub is_in : DirectoryOf → Option ℕ → ℕ → Bool
is_in d None person = false
is_in d (Some place) person = is_reached d place person

abbrev pub is_member : DirectoryOf → List ℕ → ℕ → Bool
is_member d group person = is_in d (find_group group d) person

-- all of them, in ascending order
abbrev pub members : DirectoryOf → List ℕ → List ℕ
members d group = filter (is_member d group) (everybody d)

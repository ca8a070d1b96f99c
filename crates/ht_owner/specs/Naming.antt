-- Persons whom a command names.
use Rattle.std.specs.Prelude.{ℕ, ◌==◌, Bool, false, List, filter, Option}
use Rattle.std.specs.List.{list_any}
use Rattle.std.specs.Option.{option_map_or}
use Rattle.ht_people.specs.Directory.{DirectoryOf, find}
use Rattle.ht_people.specs.Membership.{everybody}

abbrev pub is_this : ℕ → Option ℕ → Bool
is_this person o = option_map_or (λ p. person == p) o false

-- the person has one of these names
abbrev pub is_named : DirectoryOf → List (List ℕ) → ℕ → Bool
is_named d names person = list_any (λ name. is_this person (find name d)) names

-- all who have one, in ascending order
abbrev pub persons_named : DirectoryOf → List (List ℕ) → List ℕ
persons_named d names = filter (is_named d names) (everybody d)

-- The people text that is built in: sixteen persons, of whom none operates the server, and no group.
use Rattle.std.specs.Prelude.{◌≡◌, ◌⊎◌, ℕ, false, List, [], ◌++◌, map, codes, Result, Ok, Err}
use Rattle.std.specs.Fmt.{decimal}
use Rattle.std.specs.List.{flat_map, range_with_len}
use Rattle.ht_people.specs.declared.refusal.PeopleRefusal.{PeopleRefusal}
use Rattle.ht_people.specs.declared.refusal.PeopleRefusal.TheVariants.{Memory}
use Rattle.ht_people.specs.Directory.{DirectoryOf}
use Rattle.ht_people.specs.PeopleText.{person_with}

-- p, and the number in decimal
abbrev pub numbered_name : ℕ → List ℕ
numbered_name n = codes "p" ++ decimal n

-- the two lines of a person
abbrev pub person_lines : ℕ → List ℕ
person_lines n = codes "[[person]]\nname = \"" ++ numbered_name n ++ codes "\"\n"

unfoldable pub built_in_text : List ℕ
built_in_text = flat_map person_lines (range_with_len 0 16)

unfoldable pub built_in_people : DirectoryOf
built_in_people = record { persons = map (λ n. person_with (numbered_name n) false) (range_with_len 0 16); groups = [] }

-- these persons are read, or there is no memory
abbrev pub IsBuiltIn : Result DirectoryOf PeopleRefusal → Type 0
IsBuiltIn answer = (answer ≡ Err Memory) ⊎ (answer ≡ Ok built_in_people)

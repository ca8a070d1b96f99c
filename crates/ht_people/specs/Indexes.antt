-- Where the names of a directory stand.
use Rattle.std.specs.Prelude.{ℕ, List}
use Rattle.ht_base.specs.Indexes.{IsIndex}
use Rattle.ht_people.specs.declared.places.Places.{Places}

-- over the names of persons, and of groups
pub record ArePlaces (places : Places) (persons groups : List (List ℕ)) : Type 0 where
  pub persons_are : IsIndex places.persons persons
  pub groups_are : IsIndex places.groups groups

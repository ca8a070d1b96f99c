-- What always holds of a directory.
use Rattle.std.specs.Prelude.{ℕ, ◌≤◌, length, map}
use Rattle.ht_base.specs.declared.limits.TheConstants.{LONGEST_CHAIN, MOST_GROUPS, MOST_PERSONS}
use Rattle.ht_people.specs.declared.directory.Directory.TheInside.{Inside}
use Rattle.ht_graph.specs.Graphs.{IsClosed, IsDeeper}
use Rattle.ht_people.specs.Directory.{members_at, places}
use Rattle.ht_people.specs.Indexes.{ArePlaces}
use Rattle.ht_base.specs.Places.{IsRepeated}

pub record IsKept (d : Inside) : Type 0 where
  pub persons_few : length d.people.persons ≤ MOST_PERSONS
  pub groups_few : length d.people.groups ≤ MOST_GROUPS
  pub closed : IsClosed (places d.people) (members_at d.people)
  pub short : IsDeeper (members_at d.people) LONGEST_CHAIN → ⊥
  pub indexed : ArePlaces d.places (map (λ p. p.name) d.people.persons) (map (λ g. g.name) d.people.groups)
  pub persons_distinct : (i : ℕ) → IsRepeated (map (λ p. p.name) d.people.persons) i → ⊥

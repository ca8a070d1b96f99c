use Rattle.std.proofs.Common.{◌≡◌, ◌∙◌, ℕ, List, Some, ap, map, option_map}
use Rattle.std.specs.Prelude.{slice_get}
use Rattle.std.proofs.lemmas.Option.{slice_get-map}
use Rattle.ht_base.proofs.PublicLaws.{own_place}
use Rattle.ht_base.specs.Places.{IsRepeated, place_in}
use Rattle.ht_people.specs.declared.entries.PersonEntry.{PersonEntry}
use Rattle.ht_people.proofs.directory.Directory.name.Goals as goal

found_name : (persons : List PersonEntry) (i : ℕ) (p : PersonEntry) → slice_get persons i ≡ Some p → ((j : ℕ) → IsRepeated (map (λ p. p.name) persons) j → ⊥) → place_in p.name (map (λ p. p.name) persons) ≡ Some i
found_name persons i p there alone = own_place p.name (map (λ p. p.name) persons) i (slice_get-map (λ (p : PersonEntry). p.name) persons i ∙ ap (option_map (λ p. p.name)) there) (alone i)

pub returns-clause-found : goal.returns-clause-found
returns-clause-found c =
    let is = found_name c.self.inside.people.persons c.person.inside.0 c.person-2.result.now c.person-2.ensures c.self.invariant.persons_distinct in
    rw (← c.self.view_is, ← c.person.view_is) is

use Rattle.ht_people.proofs.places.person_places.Goals as goal

pub returns-clause-distinct : goal.returns-clause-distinct
returns-clause-distinct c = rw (c.deref.ensures.value, c.in_ok-names.ensures) at c.name_places.ensures.distinct

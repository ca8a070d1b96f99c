use Rattle.std.proofs.Common.{◌≡◌, length}
use Rattle.ht_lists.proofs.Found.{below_at}
use Rattle.ht_lists.proofs.naming.names_of.Goals as goal

pub name-requires : goal.name-requires
name-requires c =
    let items = c.as_slice-persons.result.now in
    let same : items ≡ c.args.persons.now = c.as_slice-persons.ensures.value in
    below_at (length c.args.people.now.persons) c.args.persons.now c.loop-person.person-index c.person-item.result c.requires
    (rw (← same) c.loop-person-test.true)
    (rw (← same) c.person-item.is)

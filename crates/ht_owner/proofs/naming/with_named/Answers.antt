use Rattle.std.proofs.Common.{◌||◌, length}
use Rattle.ht_base.specs.Persons.{has}
use Rattle.ht_owner.specs.Naming.{is_named}
use Rattle.ht_finding.proofs.PublicLaws.{below_has, joined_by, either_of}
use Rattle.ht_owner.proofs.naming.with_named.Goals as goal

pub returns : goal.returns
returns c =
    let d = c.args.people.now in
    let persons = c.args.persons.now in
    joined_by (λ x y. x || y) either_of (λ p. has p persons) (is_named d c.args.names.now) (length d.persons) c.in_ok-named.named (λ p. below_has (length d.persons) persons p c.requires) c.in_ok-named.ensures c.union.result c.union.ensures.set c.union.ensures.ascends

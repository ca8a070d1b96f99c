use Rattle.std.proofs.Common.{◌&&◌, not, length}
use Rattle.ht_base.specs.Persons.{has}
use Rattle.ht_owner.specs.Naming.{is_named}
use Rattle.ht_finding.proofs.PublicLaws.{below_has, joined_by, first_of_two}
use Rattle.ht_owner.proofs.naming.without_named.Goals as goal

pub returns : goal.returns
returns c =
    let d = c.args.people.now in
    let persons = c.args.persons.now in
    joined_by (λ x y. x && not y) first_of_two (λ p. has p persons) (is_named d c.args.names.now) (length d.persons) c.in_ok-named.named (λ p. below_has (length d.persons) persons p c.requires) c.in_ok-named.ensures c.except.result c.except.ensures.set c.except.ensures.ascends

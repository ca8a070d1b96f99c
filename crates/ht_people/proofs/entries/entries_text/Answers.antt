use Rattle.std.proofs.Common.{◌≡◌, ◌+◌, List, length, map}
use Rattle.std.proofs.lemmas.List.{length-map}
use Rattle.std.proofs.lemmas.Option.{slice_get_within}
use Rattle.toml.specs.Data.{Data}
use Rattle.toml.specs.View.{view}
use Rattle.ht_base.proofs.PublicLaws.{least_behind, least_in_front, neither}
use Rattle.ht_toml.proofs.PublicLaws.{misshapen_least}
use Rattle.ht_toml.specs.Entries.{IsMisshapen}
use Rattle.ht_people.specs.PeopleText.{group_of, person_of}
use Rattle.ht_people.proofs.entries.entries_text.Goals as goal

pub returns-in-Err-Misshapen-clause-passes : goal.returns-in-Err-Misshapen-clause-passes
returns-in-Err-Misshapen-clause-passes c =
    let persons : List Data = map view c.args.persons.now in
    let i = c.in-Err-Misshapen.place in
    let first = misshapen_least (IsMisshapen person_of persons) i _ c.in-Err-Misshapen.field-0-is c.in-Err-Misshapen.ensures.passes in
    λ _. (i, (cc), least_in_front (length persons) (IsMisshapen person_of persons) (IsMisshapen group_of (map view c.args.groups.now)) i (slice_get_within persons i first.holds.0 first.holds.1) first)

pub returns-in-Err-Misshapen-each-clause-passes : goal.returns-in-Err-Misshapen-each-clause-passes
returns-in-Err-Misshapen-each-clause-passes c =
    let persons : List Data = map view c.args.persons.now in
    let count : length persons ≡ length c.args.persons.now = length-map c.args.persons.now view in
    let i = c.in-Err-Misshapen-each.place in
    let first = misshapen_least (IsMisshapen group_of (map view c.args.groups.now)) i _ c.in-Err-Misshapen-each.field-0-is c.in-Err-Misshapen-each.ensures.passes in
    λ _. (length c.args.persons.now + i, (cc), rw (← count) (least_behind (length persons) (IsMisshapen person_of persons) (IsMisshapen group_of (map view c.args.groups.now)) i c.in-Ok.ensures.passes first))

pub returns-in-Ok-each-clause-passes : goal.returns-in-Ok-each-clause-passes
returns-in-Ok-each-clause-passes c =
    let persons : List Data = map view c.args.persons.now in
    neither (length persons) (IsMisshapen person_of persons) (IsMisshapen group_of (map view c.args.groups.now)) c.in-Ok.ensures.passes c.in-Ok-each.ensures.passes

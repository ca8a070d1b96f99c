use Rattle.std.proofs.Common.{◌∙◌, ap, arith, length, sym}
use Rattle.std.proofs.lemmas.List.{length-map}
use Rattle.ht_base.proofs.PublicLaws.{found_within}
use Rattle.ht_people.specs.Directory.{group_names}
use Rattle.ht_people.specs.PeopleText.{PeopleTextOf}
use Rattle.ht_people.proofs.groups.place_of.Goals as goal

pub overflow_add-result : goal.overflow_add-result
overflow_add-result c =
    let few = c.text.inside.persons.small in
    let room = c.text.inside.persons.ok in
    let many = c.text.inside.groups.small in
    let space = c.text.inside.groups.ok in
    let low = found_within c.in-Group.name (group_names c.args.text.now) c.in-Some.i.now (sym (c.in-Some.ensures.value ∙ c.requires.groups_are c.in-Group.name)) in
    let names = length-map c.args.text.now.groups (λ g. g.name) in
    let groups = ap (λ (t : PeopleTextOf). length t.groups) c.text.view_is in
    omega arith

use Rattle.std.proofs.Common.{◌≡◌, ◌∙◌, ◌+◌, ℕ, ap, length, refl, subst, sym}
use Rattle.ht_base.proofs.PublicLaws.{least_behind, least_in_front, neither}
use Rattle.ht_base.specs.Places.{IsLeast, IsRepeated}
use Rattle.ht_people.specs.Directory.{person_names}
use Rattle.ht_people.specs.PeopleText.{PeopleTextOf}
use Rattle.ht_people.specs.Refusals.{IsTwice, IsTwiceGroup}
use Rattle.ht_people.proofs.Twice.{person_within}
use Rattle.ht_people.proofs.places.places_of.Goals as goal

pub returns-in-Err-Repeated-clause-passes : goal.returns-in-Err-Repeated-clause-passes
returns-in-Err-Repeated-clause-passes c =
    let t = c.args.text.now in
    let i = c.in-Err-Repeated.place in
    let persons = c.deref.ensures.value ∙ ap (λ (t : PeopleTextOf). t.persons) c.text.view_is in
    let first = rw persons at (c.in-Err-Repeated.ensures.repeated i c.in-Err-Repeated.field-0-is) in
    λ _. (i, (cc), least_in_front (length t.persons) (IsRepeated (person_names t)) (IsTwiceGroup t.groups) i (person_within t.persons i first.holds) first)

pub returns-in-Ok-group_places-clause-passes : goal.returns-in-Ok-group_places-clause-passes
returns-in-Ok-group_places-clause-passes c =
    let t = c.args.text.now in
    let persons = c.deref.ensures.value ∙ ap (λ (t : PeopleTextOf). t.persons) c.text.view_is in
    let groups = c.deref-2.ensures.value ∙ ap (λ (t : PeopleTextOf). t.groups) c.text.view_is in
    neither (length t.persons) (IsRepeated (person_names t)) (IsTwiceGroup t.groups) (rw persons at c.in-Ok.ensures.distinct) (rw groups at c.in-Ok-group_places.ensures.distinct)

pub returns-in-Err-Repeated-group_places-clause-passes : goal.returns-in-Err-Repeated-group_places-clause-passes
returns-in-Err-Repeated-group_places-clause-passes c =
    let t = c.args.text.now in
    let persons = c.deref.ensures.value ∙ ap (λ (t : PeopleTextOf). t.persons) c.text.view_is in
    let groups = c.deref-2.ensures.value ∙ ap (λ (t : PeopleTextOf). t.groups) c.text.view_is in
    let i = c.in-Err-Repeated-group_places.i in
    let first = rw groups at (c.in-Err-Repeated-group_places.ensures.repeated i c.in-Err-Repeated-group_places.field-0-is) in
    let is : IsLeast (IsTwice t) (length t.persons + i) = least_behind (length t.persons) (IsRepeated (person_names t)) (IsTwiceGroup t.groups) i (rw persons at c.in-Ok.ensures.distinct) first in
    let count : length t.persons ≡ c.len.result = sym (c.len.ensures ∙ c.text.inside.persons.ok.0 ∙ ap (λ (t : PeopleTextOf). length t.persons) c.text.view_is) in
    λ _. (c.len.result + i, refl, subst (λ (n : ℕ). IsLeast (IsTwice t) (n + i)) count is)

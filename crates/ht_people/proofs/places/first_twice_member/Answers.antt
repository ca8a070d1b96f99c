use Rattle.std.proofs.Common.{◌∙◌, ap, arith, below_more, length, refl}
use Rattle.std.proofs.lemmas.Option.{slice_get_read, slice_get_within}
use Rattle.ht_people.specs.PeopleText.{GroupText}
use Rattle.ht_people.specs.Refusals.{HasTwiceMember}
use Rattle.ht_base.proofs.PublicLaws.{least_here}
use Rattle.ht_people.proofs.Twice.{not_twice_at, twice_at}
use Rattle.ht_people.proofs.places.first_twice_member.Goals as goal

pub returns-in-Err-Repeated-clause-found : goal.returns-in-Err-Repeated-clause-found
returns-in-Err-Repeated-clause-found c =
    let groups = c.args.groups.now in
    let at = slice_get_read groups (length groups) c.loop-place.place c.index-groups-place.result refl c.loop-place-test.true c.index-groups-place.is in
    let same = c.deref.ensures.value ∙ ap (λ (g : GroupText). g.members) c.group.view_is in
    let least = c.in-Err-Repeated.ensures.repeated c.in-Err-Repeated.field-0-0 c.in-Err-Repeated.field-0-is in
    least_here (HasTwiceMember groups) c.loop-place.place (twice_at groups c.loop-place.place c.in-Err-Repeated.field-0-0 c.index-groups-place.result c.deref.result.now at same least.holds) c.loop-place.invariant

pub loop-place-preserved : goal.loop-place-preserved
loop-place-preserved c =
    let groups = c.args.groups.now in
    let at = slice_get_read groups (length groups) c.loop-place.place c.index-groups-place.result refl c.loop-place-test.true c.index-groups-place.is in
    let same = c.deref.ensures.value ∙ ap (λ (g : GroupText). g.members) c.group.view_is in
    below_more _ _ c.loop-place.invariant (not_twice_at groups c.loop-place.place c.index-groups-place.result c.deref.result.now at same c.in-Ok.ensures.distinct)

pub returns-clause-none : goal.returns-clause-none
returns-clause-none c =
    λ i t. c.loop-place.invariant i (let within = slice_get_within c.args.groups.now i t.0 t.1 in let past = c.loop-place-test.false in omega arith) t

use Rattle.std.proofs.Common.{◌≡◌, ◌∙◌, ap, below_more, length, refl, sym}
use Rattle.std.proofs.lemmas.Option.{slice_get_read}
use Rattle.ht_people.specs.PeopleText.{GroupText}
use Rattle.ht_people.proofs.Unknown.{all_known, group_is, not_unknown, places_more}
use Rattle.ht_people.proofs.groups.group_of.Goals as goal

pub returns-in-None-clause-none : goal.returns-in-None-clause-none
returns-in-None-clause-none c =
    let members = c.deref-member-items.result.now in
    let at = slice_get_read members (length members) c.loop-member.member-index c.member-item.result refl c.loop-member-test.true c.member-item.is in
    let same = c.deref-member-items.ensures.value ∙ ap (λ (g : GroupText). g.members) c.entry.view_is in
    λ _. (c.loop-member.member-index, c.member-item.result, rw same at at, sym c.place_of.ensures ∙ c.in-None.is)

pub loop-member-preserved : goal.loop-member-preserved
loop-member-preserved c =
    let members = c.deref-member-items.result.now in
    let i = c.loop-member.member-index in
    let at = slice_get_read members (length members) i c.member-item.result refl c.loop-member-test.true c.member-item.is in
    let place = sym c.place_of.ensures ∙ c.in-Some.is in
    record {
      places = rw (c.in_ok-push-in-Some.ensures.items, c.loop-member.invariant.places) (sym (places_more c.args.text.now members i c.member-item.result c.in-Some.place at place));
      known = below_more _ _ c.loop-member.invariant.known (not_unknown c.args.text.now members i c.member-item.result c.in-Some.place at place);
    }

pub returns-clause-some : goal.returns-clause-some
returns-clause-some c =
    let same = c.deref-member-items.ensures.value ∙ ap (λ (g : GroupText). g.members) c.entry.view_is in
    let is = group_is c.args.text.now c.args.entry.now c.entry.inside.name c.deref-member-items.result.now c.loop-member.member-index c.loop-member.members.items (ap (λ (g : GroupText). g.name) c.entry.view_is) same c.loop-member-test.false c.loop-member.invariant.places in
    λ g e. let made : g ≡ record { name = c.entry.inside.name; members = c.loop-member.members.items } = cc in made ∙ is

pub returns-clause-known : goal.returns-clause-known
returns-clause-known c =
    let same = c.deref-member-items.ensures.value ∙ ap (λ (g : GroupText). g.members) c.entry.view_is in
    λ g _. all_known c.args.text.now c.args.entry.now c.deref-member-items.result.now c.loop-member.member-index same c.loop-member-test.false c.loop-member.invariant.known

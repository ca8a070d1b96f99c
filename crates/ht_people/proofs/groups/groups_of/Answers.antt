use Rattle.std.proofs.Common.{◌≡◌, ◌+◌, ◌∙◌, ℕ, ap, arith, below_more, length, map, refl, subst, sym}
use Rattle.std.proofs.lemmas.List.{take_all}
use Rattle.std.proofs.lemmas.Option.{slice_get_read, slice_get_within}
use Rattle.ht_base.specs.Places.{Behind, IsLeast}
use Rattle.ht_people.specs.Directory.{group_from}
use Rattle.ht_people.specs.PeopleText.{PeopleTextOf}
use Rattle.ht_people.specs.Refusals.{HasUnknown}
use Rattle.ht_base.proofs.PublicLaws.{least_here}
use Rattle.ht_people.proofs.Mapped.{mapped_more}
use Rattle.ht_people.proofs.Unknown.{not_unknown_at, unknown_at}
use Rattle.ht_people.proofs.groups.groups_of.Goals as goal

behind_first : (count : ℕ) (P : ℕ → Type 0) (i : ℕ) → IsLeast P i → IsLeast (Behind count P) (count + i)
behind_first count P i first = record { holds = (i, refl, first.holds); least = λ j h. let low = first.least h.0 h.2 in let at = h.1 in omega arith }

pub returns-in-None-clause-passes : goal.returns-in-None-clause-passes
returns-in-None-clause-passes c =
    let t = c.args.text.now in
    let i = c.loop-i.i in
    let same = c.deref-entry-items.ensures.value ∙ ap (λ (t : PeopleTextOf). t.groups) c.text.view_is in
    let at = rw same at (slice_get_read c.deref-entry-items.result.now (length c.deref-entry-items.result.now) i c.entry-item.result refl c.loop-i-test.true c.entry-item.is) in
    let count : length t.persons ≡ c.len.result = sym (c.len.ensures ∙ c.text.inside.persons.ok.0 ∙ ap (λ (t : PeopleTextOf). length t.persons) c.text.view_is) in
    let first = least_here (HasUnknown t) i (unknown_at t i c.entry-item.result at (c.in_ok-group.ensures.none c.in-None.is)) c.loop-i.invariant.known in
    λ _. (c.len.result + i, refl, subst (λ (n : ℕ). IsLeast (Behind (length t.persons) (HasUnknown t)) (n + i)) count (behind_first (length t.persons) (HasUnknown t) i first))

pub loop-i-preserved : goal.loop-i-preserved
loop-i-preserved c =
    let t = c.args.text.now in
    let i = c.loop-i.i in
    let same = c.deref-entry-items.ensures.value ∙ ap (λ (t : PeopleTextOf). t.groups) c.text.view_is in
    let at = rw same at (slice_get_read c.deref-entry-items.result.now (length c.deref-entry-items.result.now) i c.entry-item.result refl c.loop-i-test.true c.entry-item.is) in
    let is = sym (c.in_ok-group.ensures.some c.in-Some.group c.in-Some.is) in
    record {
      groups = rw (c.in_ok-push-in-Some.ensures.items, c.loop-i.invariant.groups) (sym (mapped_more (group_from t) t.groups i c.entry-item.result c.in-Some.group at is));
      known = below_more _ _ c.loop-i.invariant.known (not_unknown_at t i c.entry-item.result at (c.in_ok-group.ensures.known c.in-Some.group c.in-Some.is));
    }

pub returns-clause-ok : goal.returns-clause-ok
returns-clause-ok c =
    let same = c.deref-entry-items.ensures.value ∙ ap (λ (t : PeopleTextOf). t.groups) c.text.view_is in
    let past = rw same at c.loop-i-test.false in
    c.loop-i.invariant.groups ∙ ap (map (group_from c.args.text.now)) (take_all c.loop-i.i c.args.text.now.groups past)

pub returns-clause-passes : goal.returns-clause-passes
returns-clause-passes c =
    let same = c.deref-entry-items.ensures.value ∙ ap (λ (t : PeopleTextOf). t.groups) c.text.view_is in
    let past = rw same at c.loop-i-test.false in
    λ place h. c.loop-i.invariant.known h.0 (let within = slice_get_within c.args.text.now.groups h.0 h.2.0 h.2.1 in omega arith) h.2

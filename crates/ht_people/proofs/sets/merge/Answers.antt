use Rattle.std.proofs.Common.{◌≡◌, ◌∙◌, ◌++◌, ◌∷◌, [], if◌then◌else◌, subst, sym}
use Rattle.ht_base.specs.Persons.{Ascends}
use Rattle.ht_people.proofs.Merging.{below_head, goes_on}
use Rattle.ht_people.specs.Sets.{begins_with, keeps}
use Rattle.ht_people.proofs.sets.merge.Goals as goal
use Rattle.ht_people.proofs.sets.merge.Goals.{then-keeps+in_ok-push, else-keeps}

pub push-requires : goal.push-requires
push-requires c = below_head _ _ _ _ _ _ c.loop-person.invariant c.in-Some.person (sym c.least_of.ensures ∙ c.in-Some.is)

pub loop-person-preserved : goal.loop-person-preserved
loop-person-preserved c =
    let person = c.in-Some.person in
    let first = c.loop-person.first.now in
    let second = c.loop-person.second.now in
    let merged = c.loop-person.merged in
    let tested : c.keeps.result ≡ keeps c.args.keep (begins_with person first) (begins_with person second) = c.keeps.ensures ∙ rw (c.begins_with-in_first.ensures, c.begins_with-in_second.ensures) in
    let more : c.if-keeps.merged ≡ (if keeps c.args.keep (begins_with person first) (begins_with person second) then merged ++ person ∷ [] else merged) =
    elim c.if-keeps.branch [
      | then-keeps+in_ok-push w ↦ rw (← tested, w.if-keeps.true) (w.merged-is ∙ w.in_ok-push.ensures.ok)
      | else-keeps w ↦ rw (← tested, w.if-keeps.false) w.merged-is
    ] in
    let ascends : Ascends c.if-keeps.merged =
    elim c.if-keeps.branch [
      | then-keeps+in_ok-push w ↦ subst Ascends (sym w.merged-is) w.in_ok-push.ensures.ascends
      | else-keeps w ↦ subst Ascends (sym w.merged-is) c.loop-person.invariant.ascends
    ] in
    rw (c.behind-first.ensures, c.behind-second.ensures) (goes_on _ _ _ first second merged c.loop-person.invariant person c.if-keeps.merged ascends (sym c.least_of.ensures ∙ c.in-Some.is) more)

use Rattle.std.proofs.Common.{◌≡◌, ◌≤◌, List, length, None, refl, ap, sym, ◌∙◌, subst, arith}
use Rattle.ht_base.specs.declared.operation.Op.TheVariants.{Claim}
use Rattle.ht_base.specs.declared.state.State.TheVariants.{Reserved}
use Rattle.ht_base.specs.Moment.{last_moment}
use Rattle.ht_people.specs.Directory.{DirectoryOf}
use Rattle.ht_tree.specs.declared.row.Row.{Row}
use Rattle.ht_tree.specs.declared.slot.Kept.TheVariants.{Done}
use Rattle.ht_tree.specs.declared.slot.Slot.{Slot}
use Rattle.ht_tree.specs.Plans.{committed, IsPlanOf, keeping, planned, PlanOf}
use Rattle.ht_tree.specs.Slots.{IsSoundSlot}
use Rattle.ht_tree.specs.Soundness.{IsSound}
use Rattle.ht_tree.specs.Tables.{TablesOf, with_slot}
use Rattle.ht_tree.proofs.PublicLaws.{keeping_fits, no_plan_fits, slot_sound}
use Rattle.ht_tree.proofs.PublicLaws.{committed_sound, keeping_planned, planned_nothing}
use Rattle.ht_tree_tests.proofs.tables.claim_kept.Goals as goal

pub commit-requires-clause-sound : goal.commit-requires-clause-sound
commit-requires-clause-sound c =
    let t = c.args.tables.now.tables in
    let p = c.in_ok-plan.plan in
    let q = c.keep.new.self in
    let mine : Slot = record { person = c.args.person; device = c.args.device; number = c.args.number; op = Claim; task = record { 0 = 1 }; kept = Done (record { 0 = 1 }) Reserved None } in
    let persons : c.persons-persons.result ≡ length (t.people).persons = c.persons-persons.ensures.value ∙ ap (λ (d : DirectoryOf). length d.persons) c.people.ensures in
    let known = c.if-person-persons.false in
    let device = c.if-device-gt15.false in
    let number = c.if-number-eq0.false in
    let some = c.if-rows-eq0.false in
    let rows = c.rows.ensures.value in
    let same : (planned t p).rows ≡ t.rows = ap (λ (u : TablesOf). u.rows) (planned_nothing t p c.in_ok-plan.ensures) in
    let R : List Row → Type 0 = λ l. IsSoundSlot t.people (length l) mine in
    let fine : IsSoundSlot t.people (length (planned t p).rows) mine = subst R (sym same) (record {
      person = omega arith;
      numbered = (omega arith, omega arith);
      task = (refl, omega arith);
      kept = ((omega arith, omega arith), tt);
    }) in
    let none : (p.changes).slot ≡ None = ap (λ (x : PlanOf). (x.changes).slot) c.in_ok-plan.ensures in
    let to : planned t q ≡ with_slot (planned t p) mine = ap (λ (x : PlanOf). planned t x) (c.keep.ensures ∙ ap (λ (s : Slot). keeping p s) c.claim_of.ensures) ∙ keeping_planned t p mine none in
    let within = c.last-at.ensures.sound.last_within in
    let last = c.last-at.ensures.value in
    let early : c.last-at.result.0 ≤ last_moment = omega arith in
    let S : TablesOf → Type 0 = λ s. IsSound s in
    let C : TablesOf → Type 0 = λ s. IsSound (committed s q c.last-at.result.0) in
    subst C (sym c.prepare.ensures.tables) (committed_sound t p q c.last-at.result.0 c.in_ok-plan.ensures c.last-at.ensures.sound early (λ before. subst S (sym to) (slot_sound (planned t p) mine before fine)))

pub prepare-requires : goal.prepare-requires
prepare-requires c =
    let t = c.args.tables.now.tables in
    let p = c.in_ok-plan.plan in
    let F : PlanOf → Type 0 = λ q. IsPlanOf t q in
    subst F (sym c.keep.ensures) (keeping_fits t p c.claim_of.result (no_plan_fits t p c.in_ok-plan.ensures))

pub commit-requires-clause-fits : goal.commit-requires-clause-fits
commit-requires-clause-fits c =
    let t = c.args.tables.now.tables in
    let p = c.in_ok-plan.plan in
    let F : PlanOf → Type 0 = λ q. IsPlanOf t q in
    let T : TablesOf → Type 0 = λ u. IsPlanOf u c.keep.new.self in
    subst T (sym c.prepare.ensures.tables) (subst F (sym c.keep.ensures) (keeping_fits t p c.claim_of.result (no_plan_fits t p c.in_ok-plan.ensures)))

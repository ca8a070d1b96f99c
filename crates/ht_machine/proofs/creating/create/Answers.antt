use Rattle.std.proofs.Common.{◌≡◌, List, length, Option, Some, None, Err, refl, ap, sym, subst, ◌∙◌}
use Rattle.std.specs.Prelude.{slice_get}
use Rattle.ht_base.specs.declared.values.Values.{Values}
use Rattle.ht_expr.specs.declared.kinds.Side.TheVariants.{Input}
use Rattle.ht_compose.specs.Reaching.{IsTask}
use Rattle.ht_machine.specs.Commands.{Creates, why_not_created}
use Rattle.ht_machine.specs.Planning.{Tries}
use Rattle.ht_machine.proofs.Created.{created, new_row_there, refused_create, spoken_against}
use Rattle.ht_machine.proofs.Rows.{one}
use Rattle.ht_machine.proofs.creating.create.Goals as goal
use Rattle.ht_models.specs.Kinded.{parts_of}
use Rattle.ht_models.specs.Model.{ModelOf}
use Rattle.ht_entries.specs.Parts.{Part}
use Rattle.ht_models.specs.Shown.{model_of}
use Rattle.ht_owner.specs.declared.refusal.ActRefusal.{ActRefusal}
use Rattle.ht_people.specs.Directory.{DirectoryOf}
use Rattle.ht_tree.specs.Creating.{IsInput, new_row}
use Rattle.ht_finding.specs.Giving.{values_given}
use Rattle.ht_tree.specs.Plans.{Goes, planned}
use Rattle.ht_tree.specs.Soundness.{AreHeld}
use Rattle.ht_tree.specs.Tables.{TablesOf, directory, model_at, with_row}
use Rattle.ht_tree.proofs.PublicLaws.{given_held}

pub returns-in-Some : goal.returns-in-Some
returns-in-Some c =
    let t = c.args.tables.now.tables in
    let place = c.in_ok-place.place in
    let m : ModelOf = model_of c.model-model.result.now in
    let at : model_at t place ≡ Some m = ap (λ (ms : List ModelOf). slice_get ms place) (sym c.models.ensures.value) ∙ c.model-model.ensures.value in
    let against : why_not_created (directory t) m c.args.input.now ≡ Some c.in-Some.refusal = ap (λ (d : DirectoryOf). why_not_created d m c.args.input.now) (sym c.people.ensures) ∙ sym c.why_not_created.ensures ∙ c.in-Some.is in
    (spoken_against t c.args.plan.now c.args.caller c.args.at.0 place c.args.input.now c.args.waits c.args.model m c.in-Some.refusal c.in_ok-place.ensures.finds at against, refl)

pub create-created-requires-clause-input : goal.create-created-requires-clause-input
create-created-requires-clause-input c =
    let t = c.args.tables.now.tables in
    let n = length t.people.persons in
    let m : ModelOf = model_of c.model-model.result.now in
    let at : model_at t c.in_ok-place.place ≡ Some m = ap (λ (ms : List ModelOf). slice_get ms c.in_ok-place.place) (sym c.models.ensures.value) ∙ c.model-model.ensures.value in
    let given : c.in_ok-values.values ≡ values_given (directory t) m.input c.args.input.now = c.in_ok-values.ensures ∙ ap (λ (d : DirectoryOf). values_given d c.deref.result.now c.args.input.now) c.people-2.ensures ∙ ap (λ (ps : List Part). values_given (directory t) ps c.args.input.now) c.deref.ensures.value in
    let H : Values → Type 0 = λ vs. AreHeld (parts_of m.input m.output) n Input vs in
    let held : H c.in_ok-values.values = subst H (sym given) (given_held (directory t) m.input m.output c.args.input.now c.requires.input) in
    let I : Option ModelOf → Type 0 = λ o. IsInput n o c.in_ok-values.values in
    subst I (sym at) held

pub activate_unless-requires-clause-plan : goal.activate_unless-requires-clause-plan
activate_unless-requires-clause-plan c = record { fits = (c.in-Ok.ensures.goes.2).fits; sound = c.in-Ok.ensures.sound tt c.requires.at c.requires.waits c.requires.plan.sound }

pub activate_unless-requires-clause-there : goal.activate_unless-requires-clause-there
activate_unless-requires-clause-there c =
    let t = c.args.tables.now.tables in
    let goes = c.in-Ok.ensures.goes in
    let P : TablesOf → Type 0 = λ u. IsTask u c.in-Ok.task.0 in
    subst P (sym (goes.2).to) (new_row_there (planned t c.args.plan.now) goes.0 c.in_ok-place.place None c.args.caller c.in_ok-values.values c.args.waits c.args.at c.in-Ok.task.0 c.in-Ok.ensures.id)

pub returns-in_ok-activate_unless-in-Ok : goal.returns-in_ok-activate_unless-in-Ok
returns-in_ok-activate_unless-in-Ok c =
    let t = c.args.tables.now.tables in
    let old = c.args.plan.now in
    let u = planned t old in
    let place = c.in_ok-place.place in
    let input = c.args.input.now in
    let m : ModelOf = model_of c.model-model.result.now in
    let at : model_at t place ≡ Some m = ap (λ (ms : List ModelOf). slice_get ms place) (sym c.models.ensures.value) ∙ c.model-model.ensures.value in
    let found = c.in-Ok.ensures.goes in
    let same : found.0 ≡ m = one (model_at t place) found.0 m found.1 at in
    let fine : why_not_created (directory t) m input ≡ None = ap (λ (d : DirectoryOf). why_not_created d m input) (sym c.people.ensures) ∙ sym c.why_not_created.ensures ∙ c.in_default.is in
    let given : c.in_ok-values.values ≡ values_given (directory t) m.input input = c.in_ok-values.ensures ∙ ap (λ (d : DirectoryOf). values_given d c.deref.result.now input) c.people-2.ensures ∙ ap (λ (ps : List Part). values_given (directory t) ps input) c.deref.ensures.value in
    let M : ModelOf → Type 0 = λ x. Goes t old c.create-created.new.plan u (with_row u (new_row u x place None c.args.caller c.in_ok-values.values c.args.waits c.args.at)) in
    let G : Values → Type 0 = λ vs. Goes t old c.create-created.new.plan u (with_row u (new_row u m place None c.args.caller vs c.args.waits c.args.at)) in
    created t old c.create-created.new.plan c.activate_unless.new.plan c.args.caller c.args.at place input c.args.waits c.args.model m c.in-Ok.task
    c.in_ok-place.ensures.finds at fine (c.in-Ok.ensures.room refl) c.in-Ok.ensures.id (subst G given (subst M same found.2)) c.in_ok-activate_unless-in-Ok.ensures

pub returns-in-Err : goal.returns-in-Err
returns-in-Err c =
    let t = c.args.tables.now.tables in
    let old = c.args.plan.now in
    let new = c.create-created.new.plan in
    let place = c.in_ok-place.place in
    let input = c.args.input.now in
    let m : ModelOf = model_of c.model-model.result.now in
    let at : model_at t place ≡ Some m = ap (λ (ms : List ModelOf). slice_get ms place) (sym c.models.ensures.value) ∙ c.model-model.ensures.value in
    let fine : why_not_created (directory t) m input ≡ None = ap (λ (d : DirectoryOf). why_not_created d m input) (sym c.people.ensures) ∙ sym c.why_not_created.ensures ∙ c.in_default.is in
    let T : ActRefusal → Type 0 = λ why. Tries t old new (Creates (planned t old) c.args.caller c.args.at.0 c.args.model input c.args.waits) (Err why) in
    subst T (sym c.refusal_of.ensures)
    (refused_create t old new c.args.caller c.args.at.0 place input c.args.waits c.args.model m c.in-Err.refusal
    c.in_ok-place.ensures.finds at fine (λ limit. (c.in-Err.ensures.full (rw limit refl)).1) c.in-Err.ensures.err)

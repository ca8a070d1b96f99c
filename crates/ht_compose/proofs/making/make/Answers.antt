use Rattle.std.proofs.Common.{◌≡◌, ℕ, Bool, true, ◌||◌, List, [], ◌∷◌, length, map, Option, Some, None, ap, ap₂, sym, subst, ◌∙◌}
use Rattle.std.proofs.lemmas.Result.{IfOk-weaker}
use Rattle.std.specs.Prelude.{slice_get}
use Rattle.ht_base.specs.Places.{place_in}
use Rattle.ht_base.specs.declared.values.Values.{Values}
use Rattle.ht_compose.specs.declared.item.Item.{Item as Task}
use Rattle.ht_compose.specs.Items.{makes_at, makes_entry}
use Rattle.ht_compose.specs.Items.Item.{Activate, Make}
use Rattle.ht_compose.specs.Running.{item_of}
use Rattle.ht_compose.proofs.Acted.{acts_as_before, model_there}
use Rattle.ht_compose.proofs.NewSubs.{IsWanted, acts_new, input_fits, may_come, no_more_made, none_made, wanted}
use Rattle.ht_compose.proofs.making.make.Goals as goal
use Rattle.ht_compose.proofs.making.make.Goals.{then-is_final-via-then-is_final, then-is_final-via-else-is_final+in_ok-is_made+then-branch}
use Rattle.ht_models.specs.Model.{ModelOf, names}
use Rattle.ht_models.specs.Shown as shown
use Rattle.ht_entries.specs.SubEntries.{SubEntry}
use Rattle.ht_tree.proofs.PublicLaws.{within}
use Rattle.ht_tree.specs.Creating.{IsInput, new_row}
use Rattle.ht_base.specs.State.{is_final}
use Rattle.ht_tree.specs.Families.{is_made}
use Rattle.ht_tree.specs.Plans.{Goes, planned}
use Rattle.ht_tree.specs.Tables.{TablesOf, model_at, with_row}

pub returns-then-is_final-clause-acts : goal.returns-then-is_final-clause-acts
returns-then-is_final-clause-acts c =
    let t = c.args.tables.now.tables in
    let u = planned t c.args.plan.now in
    let row = c.in-Some.row.now in
    let number : row.task.0 ≡ c.args.task.0 = c.requires.plan.sound.numbered c.args.task.0 row (sym c.in-Some.ensures.value) in
    let done : (is_final row.state || is_made row.task.0 c.args.entry u.rows) ≡ true =
    elim c.then-is_final.branch [
      | then-is_final-via-then-is_final w ↦ ap (λ (b : Bool). b || is_made row.task.0 c.args.entry u.rows) (sym c.is_final.ensures ∙ w.if-is_final.true)
      | then-is_final-via-else-is_final+in_ok-is_made+then-branch w ↦
          ap (λ (b : Bool). b || is_made row.task.0 c.args.entry u.rows) (sym c.is_final.ensures ∙ w.if-is_final.false)
          ∙ ap (λ (k : ℕ). is_made k c.args.entry u.rows) number ∙ sym w.in_ok-is_made.ensures ∙ w.if-branch.true
    ] in
    acts_as_before t c.args.plan.now c.args.at (Make c.args.task.0 c.args.entry) c.new-then-is_final.result.items [] c.requires.plan.fits c.requires.plan.sound
    (no_more_made u c.args.at c.args.task.0 c.args.entry row (sym c.in-Some.ensures.value) done)
    (ap (λ (l : List Task). map item_of l) c.new-then-is_final.ensures.items)

pub returns-in_default-entry_at-clause-acts : goal.returns-in_default-entry_at-clause-acts
returns-in_default-entry_at-clause-acts c =
    let t = c.args.tables.now.tables in
    let u = planned t c.args.plan.now in
    let row = c.in-Some.row.now in
    let m : ModelOf = shown.model_of c.model.result.now in
    let none : slice_get m.subs c.args.entry ≡ None = sym c.in_default-entry_at.ensures in
    acts_as_before t c.args.plan.now c.args.at (Make c.args.task.0 c.args.entry) c.new-in_default-entry_at.result.items [] c.requires.plan.fits c.requires.plan.sound
    (none_made u c.args.at c.args.task.0 c.args.entry row m (sym c.in-Some.ensures.value) (model_there u row c.models.result.now m c.models.ensures.value c.model.ensures.value) (ap (λ (o : Option SubEntry). makes_entry u c.args.at row c.args.entry o) none))
    (ap (λ (l : List Task). map item_of l) c.new-in_default-entry_at.ensures.items)

pub returns-in_default-place_of-clause-acts : goal.returns-in_default-place_of-clause-acts
returns-in_default-place_of-clause-acts c =
    let t = c.args.tables.now.tables in
    let u = planned t c.args.plan.now in
    let row = c.in-Some.row.now in
    let m : ModelOf = shown.model_of c.model.result.now in
    let sub = c.in-Some-entry_at.sub.now in
    let listed : slice_get m.subs c.args.entry ≡ Some sub = sym c.in-Some-entry_at.ensures in
    let none : place_in sub.model (names u.models) ≡ None = ap (λ (ms : List ModelOf). place_in sub.model (names ms)) (sym c.models-2.ensures.value) ∙ sym c.in_default-place_of.ensures.value in
    acts_as_before t c.args.plan.now c.args.at (Make c.args.task.0 c.args.entry) c.new-in_default-place_of.result.items [] c.requires.plan.fits c.requires.plan.sound
    (none_made u c.args.at c.args.task.0 c.args.entry row m (sym c.in-Some.ensures.value) (model_there u row c.models.result.now m c.models.ensures.value c.model.ensures.value)
    (ap (λ (o : Option SubEntry). makes_entry u c.args.at row c.args.entry o) listed ∙ ap (λ (o : Option ℕ). makes_at u c.args.at row c.args.entry sub o) none))
    (ap (λ (l : List Task). map item_of l) c.new-in_default-place_of.ensures.items)

pub create-requires-clause-parent : goal.create-requires-clause-parent
create-requires-clause-parent c = within (planned c.args.tables.now.tables c.args.plan.now).rows c.in-Some.row.now c.args.task.0 (sym c.in-Some.ensures.value)

pub create-requires-clause-input : goal.create-requires-clause-input
create-requires-clause-input c =
    let t = c.args.tables.now.tables in
    let u = planned t c.args.plan.now in
    let row = c.in-Some.row.now in
    let m : ModelOf = shown.model_of c.model.result.now in
    let named : Some c.in-Some-place_of.model ≡ place_in c.in-Some-entry_at.sub.now.model (names c.models.result.now) =
    c.in-Some-place_of.ensures.value ∙ ap (λ (ms : List ModelOf). place_in c.in-Some-entry_at.sub.now.model (names ms)) (c.models-2.ensures.value ∙ sym c.models.ensures.value) in
    let is : IsWanted u c.args.task.0 c.args.entry row m c.in-Some-entry_at.sub.now c.in-Some-place_of.model =
    wanted u c.args.task.0 c.args.entry row c.models.result.now m c.in-Some-entry_at.sub.now c.in-Some-place_of.model c.requires.plan.sound c.models.ensures.value c.model.ensures.inputs c.in-Some.ensures.value c.model.ensures.value (sym c.is_final.ensures ∙ c.if-is_final.false) (sym c.in_ok-is_made.ensures ∙ c.if-branch.false) (sym c.in-Some-entry_at.ensures) named in
    let P : Values → Type 0 = λ vs. IsInput (length u.people.persons) (model_at u c.in-Some-place_of.model) vs in
    subst P (sym c.in_ok-input.ensures) (input_fits is)

pub returns-in-Ok-clause-acts : goal.returns-in-Ok-clause-acts
returns-in-Ok-clause-acts c =
    let t = c.args.tables.now.tables in
    let u = planned t c.args.plan.now in
    let row = c.in-Some.row.now in
    let m : ModelOf = shown.model_of c.model.result.now in
    let sub = c.in-Some-entry_at.sub.now in
    let place = c.in-Some-place_of.model in
    let named : Some place ≡ place_in sub.model (names c.models.result.now) =
    c.in-Some-place_of.ensures.value ∙ ap (λ (ms : List ModelOf). place_in sub.model (names ms)) (c.models-2.ensures.value ∙ sym c.models.ensures.value) in
    let is : IsWanted u c.args.task.0 c.args.entry row m sub place =
    wanted u c.args.task.0 c.args.entry row c.models.result.now m sub place c.requires.plan.sound c.models.ensures.value c.model.ensures.inputs c.in-Some.ensures.value c.model.ensures.value (sym c.is_final.ensures ∙ c.if-is_final.false) (sym c.in_ok-is_made.ensures ∙ c.if-branch.false) (sym c.in-Some-entry_at.ensures) named in
    let goes = c.in-Ok.ensures.goes in
    let n : ModelOf = goes.0 in
    let R : ℕ → Values → TablesOf = λ first input. with_row u (new_row u n place (Some (c.args.task, c.args.entry)) first input None c.args.at) in
    let G : TablesOf → Type 0 = λ v. Goes t c.args.plan.now c.create.new.plan u v in
    let went = subst G (ap₂ R c.unwrap_or-initiator.ensures c.in_ok-input.ensures) goes.2 in
    let sound = c.in-Ok.ensures.sound (may_come is) c.requires.at tt c.requires.plan.sound in
    IfOk-weaker c.alone.result _ _ (λ l e.
    acts_new t c.args.plan.now c.create.new.plan c.args.task c.args.entry row m sub place is c.args.at n l.items goes.1 went sound
    (ap (λ (l : List Task). map item_of l) e ∙ ap (λ (k : ℕ). Activate k ∷ []) c.in-Ok.ensures.id)) c.alone.ensures

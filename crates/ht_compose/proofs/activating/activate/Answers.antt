use Rattle.std.proofs.Common.{rules, ℕ, Bool, List, [], ◌∷◌, IfSome, Option, if◌then◌else◌, map, ap, sym, subst, ◌∙◌}
use Rattle.std.proofs.lemmas.Result.{IfOk-weaker}
use Rattle.ht_compose.specs.declared.item.Item.{Item as Task}
use Rattle.ht_compose.specs.Items.Item.{Activate, Begin}
use Rattle.ht_compose.specs.Running.{item_of}
use Rattle.ht_compose.proofs.Acted.{acts_for, fits_for, model_there}
use Rattle.ht_compose.proofs.ActivatedRows.{IsActivated, activated_may, does_activate}
use Rattle.ht_compose.proofs.activating.activate.Goals as goal
use Rattle.ht_models.specs.Model.{ModelOf}
use Rattle.ht_models.specs.Shown as shown
use Rattle.ht_tree.specs.declared.row.Row.{Row}
use Rattle.ht_tree.specs.Activation.{activated_to}
use Rattle.ht_tree.specs.Plans.{Goes, planned}
use Rattle.ht_tree.specs.Soundness.{Fits}
use Rattle.ht_tree.specs.Tables.{with_row}

pub activate-requires-clause-fits : goal.activate-requires-clause-fits
activate-requires-clause-fits c =
    let t = c.args.tables.now.tables in
    let u = planned t c.args.plan.now in
    let row = c.in-Some.row.now in
    let m : ModelOf = shown.model_of c.model.result.now in
    let after = activated_to c.activation-state.result.0 c.activation-state.result.1 row in
    let there = sym c.in-Some.ensures.value in
    let a : IsActivated u row after m = record { created = search rules; of_model = model_there u row c.models.result.now m c.models.ensures.value c.model.ensures.value; is = c.activation-state.ensures } in
    let P : Option Row → Type 0 = λ o. IfSome o (λ r. Fits t (activated_to c.activation-state.result.0 c.activation-state.result.1 r)) in
    subst P c.in-Some.ensures.value (fits_for t c.args.plan.now c.args.task.0 row after c.requires.plan.sound there (activated_may a))

pub returns-then-needs_owner-clause-acts : goal.returns-then-needs_owner-clause-acts
returns-then-needs_owner-clause-acts c = λ at.
    let t = c.args.tables.now.tables in
    let p = c.args.plan.now in
    let u = planned t p in
    let row = c.in-Some.row.now in
    let m : ModelOf = shown.model_of c.model.result.now in
    let after = activated_to c.activation-state.result.0 c.activation-state.result.1 row in
    let there = sym c.in-Some.ensures.value in
    let a : IsActivated u row after m = record { created = search rules; of_model = model_there u row c.models.result.now m c.models.ensures.value c.model.ensures.value; is = c.activation-state.ensures } in
    let G : Option Row → Type 0 = λ o. IfSome o (λ r. Goes t p c.activate.new.self u (with_row u (activated_to c.activation-state.result.0 c.activation-state.result.1 r))) in
    acts_for t p c.args.task.0 row after c.requires.plan.sound there (activated_may a) c.activate.new.self at (Activate c.args.task.0) c.new-then-needs_owner.result.items (if m.owner_required then [] else Begin row.task.0 ∷ []) (subst G there c.in_ok-activate.ensures.goes) (does_activate a at c.args.task.0 there)
    (ap (λ (l : List Task). map item_of l) c.new-then-needs_owner.ensures.items ∙ ap (λ (b : Bool). if b then [] else Begin row.task.0 ∷ []) (sym c.if-needs_owner.true))

pub returns-else-needs_owner-clause-acts : goal.returns-else-needs_owner-clause-acts
returns-else-needs_owner-clause-acts c =
    let t = c.args.tables.now.tables in
    let p = c.args.plan.now in
    let u = planned t p in
    let row = c.in-Some.row.now in
    let m : ModelOf = shown.model_of c.model.result.now in
    let after = activated_to c.activation-state.result.0 c.activation-state.result.1 row in
    let there = sym c.in-Some.ensures.value in
    let a : IsActivated u row after m = record { created = search rules; of_model = model_there u row c.models.result.now m c.models.ensures.value c.model.ensures.value; is = c.activation-state.ensures } in
    let G : Option Row → Type 0 = λ o. IfSome o (λ r. Goes t p c.activate.new.self u (with_row u (activated_to c.activation-state.result.0 c.activation-state.result.1 r))) in
    IfOk-weaker c.alone.result _ _ (λ l e at.
    acts_for t p c.args.task.0 row after c.requires.plan.sound there (activated_may a) c.activate.new.self at (Activate c.args.task.0) l.items (if m.owner_required then [] else Begin row.task.0 ∷ []) (subst G there c.in_ok-activate.ensures.goes) (does_activate a at c.args.task.0 there)
    (ap (λ (l : List Task). map item_of l) e
    ∙ ap (λ (n : ℕ). Begin n ∷ []) (sym ((c.requires.plan.sound).numbered c.args.task.0 row there))
    ∙ ap (λ (b : Bool). if b then [] else Begin row.task.0 ∷ []) (sym c.if-needs_owner.false))) c.alone.ensures

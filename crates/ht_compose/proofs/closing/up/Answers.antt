use Rattle.ht_models.specs.Contradictions.{is_automatic}
use Rattle.std.proofs.Common.{rules, ◌≡◌, ℕ, true, false, List, [], ◌∷◌, map, Some, refl, ap, sym, ◌∙◌}
use Rattle.std.proofs.lemmas.Result.{IfOk-weaker}
use Rattle.ht_base.specs.declared.state.State.TheVariants.{Failed}
use Rattle.ht_compose.specs.declared.item.Item.{Item as Task}
use Rattle.ht_compose.specs.Items.{does, has_failed, on_row, on_task, rises}
use Rattle.ht_compose.specs.Items.Item.{Close, Up}
use Rattle.ht_compose.specs.Running.{item_of}
use Rattle.ht_compose.proofs.Acted.{IsTaken, acts_again, again_next, model_there, on_this_row, on_this_task}
use Rattle.ht_compose.proofs.OneField.{with_fault}
use Rattle.ht_compose.proofs.OneRow.{one}
use Rattle.ht_compose.proofs.closing.up.Goals as goal
use Rattle.ht_models.specs.Model.{ModelOf}
use Rattle.ht_models.specs.Shown as shown
use Rattle.ht_tree.specs.declared.row.Row.{Row}
use Rattle.ht_base.specs.State.{is_final}
use Rattle.ht_tree.specs.Plans.{planned}
use Rattle.ht_tree.specs.Tables.{TablesOf, model_of, task_row, with_row}
use Rattle.ht_tree.proofs.PublicLaws.{lent_file}

pub put-requires-clause-next : goal.put-requires-clause-next
put-requires-clause-next c =
    let u = planned c.args.tables.now.tables c.args.plan.now in
    let row = c.in_ok-row.row in
    let is : IsTaken c.args.tables.now.tables c.args.plan.now c.take.new.self c.args.above.0 row = record { sound = c.requires.plan.sound; there = c.in_ok-row.ensures.row; lends = c.in_ok-row.ensures.lends } in
    again_next is (with_fault u row c.in-Some.child.now.fault)

-- a parent that hasn't ended, whose entries come by themselves, fails with a sub task that failed
fails : (u : TablesOf) (p s : ℕ) (child row : Row) (m : ModelOf) → task_row u s ≡ Some child → task_row u p ≡ Some row → model_of u row ≡ Some m → is_final row.state ≡ false → has_failed child.state ≡ true → is_automatic m.instantiation ≡ true → does (with_row u (record row { fault = child.fault })) (Close row.task.0 Failed ∷ []) ≡ on_row u (λ child. on_task u (rises u child) (task_row u p)) (task_row u s)
fails u p s child row m sub there of_model live failed automatic =
    let risen : rises u child row m ≡ does (with_row u (record row { fault = child.fault })) (Close row.task.0 Failed ∷ []) = rw (live, failed, automatic) refl in
    sym risen
    ∙ on_this_task u (rises u child) p row m there of_model
    ∙ on_this_row u (λ child. on_task u (rises u child) (task_row u p)) s child sub

pub returns-clause-acts : goal.returns-clause-acts
returns-clause-acts c =
    let t = c.args.tables.now.tables in
    let u = planned t c.args.plan.now in
    let p = c.args.above.0 in
    let row = c.in_ok-row.row in
    let child = c.in-Some.child.now in
    let m : ModelOf = shown.model_of c.model-model.result.now in
    let is : IsTaken t c.args.plan.now c.take.new.self p row = record { sound = c.requires.plan.sound; there = c.in_ok-row.ensures.row; lends = c.in_ok-row.ensures.lends } in
    let same : c.in-Some-row.row.now ≡ row = one (task_row u p) c.in-Some-row.row.now row (sym c.in-Some-row.ensures.value) is.there in
    let of_model : model_of u row ≡ Some m = ap (λ (r : Row). model_of u r) (sym same) ∙ model_there u c.in-Some-row.row.now c.models.result.now m c.models.ensures.value c.model-model.ensures.value in
    let live : is_final row.state ≡ false = ap (λ (r : Row). is_final r.state) (sym same) ∙ sym c.is_final.ensures ∙ c.if-is_final.false in
    let failed : has_failed child.state ≡ true = sym c.has_failed-failed.ensures ∙ c.if-not-failed.false in
    let automatic : is_automatic m.instantiation ≡ true = search rules in
    IfOk-weaker c.alone.result _ _ (λ l e at.
    acts_again is (with_fault u row child.fault) c.put.new.self at (Up p c.args.sub.0) l.items (Close row.task.0 Failed ∷ []) c.in_ok-put.ensures.goes
    (fails u p c.args.sub.0 child row m (sym c.in-Some.ensures.value) is.there of_model live failed automatic)
    (ap (λ (l : List Task). map item_of l) e ∙ ap (λ (n : ℕ). Close n Failed ∷ []) (sym ((is.sound).numbered p row is.there)))) c.alone.ensures

pub put-requires-clause-file : goal.put-requires-clause-file
put-requires-clause-file c = lent_file c.args.tables.now.tables c.args.plan.now c.take.new.self c.args.above.0 c.in_ok-row.row (record c.in_ok-row.row { fault = c.in-Some.child.now.fault }) c.requires.plan.sound c.in_ok-row.ensures.lends c.in_ok-row.ensures.row refl

use Rattle.std.proofs.Common.{rules, ◌≡◌, true, [], ◌∷◌, ◌++◌, Some, refl, ap, sym, subst, ◌∙◌}
use Rattle.ht_compose.specs.Items.{begins, begins_with, does, is_in_progress}
use Rattle.ht_compose.specs.Items.Item.{Begin, Check}
use Rattle.ht_compose.proofs.Acted.{IsTaken, MayReplace, acts_again, again_next, model_there, on_this_task}
use Rattle.ht_compose.proofs.OneField.{with_started}
use Rattle.ht_compose.proofs.OneRow.{one}
use Rattle.ht_compose.proofs.beginning.begin.Goals as goal
use Rattle.ht_models.specs.Model.{ModelOf}
use Rattle.ht_models.specs.Shown as shown
use Rattle.ht_tree.specs.declared.row.Row.{Row}
use Rattle.ht_tree.specs.Plans.{planned}
use Rattle.ht_tree.specs.Tables.{TablesOf, model_of, task_row, with_row}
use Rattle.ht_tree.proofs.PublicLaws.{lent_file, standing}

pub begun_with-requires : goal.begun_with-requires
begun_with-requires c =
    let m : ModelOf = shown.model_of c.model.result.now in
    (c.model.ensures.trees c.in-Some.row.now.model m c.model.ensures.value).few

-- the row that is put
may : (u : TablesOf) (row after : Row) → after ≡ record row { started = true } → MayReplace u row after
may u row after is = let M : Row → Type 0 = λ r. MayReplace u row r in subst M (sym is) (with_started u row true)

pub put-requires-clause-next : goal.put-requires-clause-next
put-requires-clause-next c =
    let u = planned c.args.tables.now.tables c.args.plan.now in
    let row = c.in_ok-row.row in
    let is : IsTaken c.args.tables.now.tables c.args.plan.now c.take.new.self c.args.task.0 row = record { sound = c.requires.plan.sound; there = c.in_ok-row.ensures.row; lends = c.in_ok-row.ensures.lends } in
    again_next is (may u row c.begun.result c.begun.ensures)

pub returns-clause-acts : goal.returns-clause-acts
returns-clause-acts c = λ at.
    let t = c.args.tables.now.tables in
    let u = planned t c.args.plan.now in
    let found = c.in-Some.row.now in
    let row = c.in_ok-row.row in
    let m : ModelOf = shown.model_of c.model.result.now in
    let is : IsTaken t c.args.plan.now c.take.new.self c.args.task.0 row = record { sound = c.requires.plan.sound; there = c.in_ok-row.ensures.row; lends = c.in_ok-row.ensures.lends } in
    let same : found ≡ row = one (task_row u c.args.task.0) found row (sym c.in-Some.ensures.value) is.there in
    let of_model : model_of u row ≡ Some m = ap (λ (r : Row). model_of u r) (sym same) ∙ model_there u found c.models.result.now m c.models.ensures.value c.model.ensures.value in
    let going : is_in_progress found.state ≡ true = search rules in
    let begun : begins u row m ≡ does (with_row u (record row { started = true })) (begins_with m row ++ Check row.task.0 ∷ []) = rw (ap (λ (r : Row). is_in_progress r.state) (sym same) ∙ going) refl in
    acts_again is (may u row c.begun.result c.begun.ensures) c.put.new.self at (Begin c.args.task.0) c.in_ok-puts.puts.items (begins_with m row ++ Check row.task.0 ∷ []) c.in_ok-put.ensures.goes
    (ap (λ (r : Row). does (with_row u r) (begins_with m row ++ Check row.task.0 ∷ [])) c.begun.ensures ∙ sym begun ∙ on_this_task u (begins u) c.args.task.0 row m is.there of_model)
    (c.in_ok-puts.ensures ∙ ap (λ (r : Row). begins_with m r ++ Check r.task.0 ∷ []) same)

pub put-requires-clause-file : goal.put-requires-clause-file
put-requires-clause-file c = lent_file c.args.tables.now.tables c.args.plan.now c.take.new.self c.args.task.0 c.in_ok-row.row c.begun.result c.requires.plan.sound c.in_ok-row.ensures.lends c.in_ok-row.ensures.row (ap standing c.begun.ensures)

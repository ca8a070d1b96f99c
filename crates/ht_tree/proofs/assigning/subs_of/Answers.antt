use Rattle.std.proofs.Common.{◌≡◌, List, [], ◌∷◌, ◌++◌, length, map, take, Some, ap, sym, ◌∙◌, arith}
use Rattle.std.proofs.lemmas.List.{length-map, map-append, take_all}
use Rattle.std.proofs.lemmas.Option.{none-some}
use Rattle.ht_base.specs.declared.state.State.{State}
use Rattle.ht_base.specs.declared.task_id.TaskId.{TaskId}
use Rattle.ht_base.specs.declared.values.Values.{Values}
use Rattle.ht_tree.specs.declared.row.Row.{Row}
use Rattle.ht_tree.specs.Families.{sub_tasks}
use Rattle.ht_tree.specs.Plans.{planned}
use Rattle.ht_tree.proofs.Rows.{take_next}
use Rattle.ht_tree.proofs.SubTasks.{sub_found}
use Rattle.ht_tree.proofs.assigning.subs_of.Goals as goal

abbrev shown : Row → State × Values
shown s = (s.state, s.output)

pub unreachable-requires : goal.unreachable-requires
unreachable-requires c =
    let u = planned c.args.tables.now.tables c.args.plan.now in
    let row = sub_found u c.requires.plan.sound c.args.task.0 c.loop-id.id-index c.args.ids.now c.requires.ids c.loop-id-test.true in
    none-some row.0 (c.in_default.ensures.value ∙ row.2)

pub loop-id-preserved : goal.loop-id-preserved
loop-id-preserved c =
    let u = planned c.args.tables.now.tables c.args.plan.now in
    let subs = sub_tasks c.args.task.0 u.rows in
    let i = c.loop-id.id-index in
    let row = sub_found u c.requires.plan.sound c.args.task.0 i c.args.ids.now c.requires.ids c.loop-id-test.true in
    let found : Some c.in-Some.row.now ≡ Some row.0 = c.in-Some.ensures.value ∙ row.2 in
    let same : c.in-Some.row.now ≡ row.0 = cc in
    c.in_ok-push.ensures.ok
    ∙ ap (λ (l : Values). c.loop-id.subs ++ (c.in-Some.row.now.state, l) ∷ []) c.in_ok-output.ensures
    ∙ ap (λ (r : Row). c.loop-id.subs ++ shown r ∷ []) same
    ∙ ap (λ (l : List (State × Values)). l ++ shown row.0 ∷ []) c.loop-id.invariant
    ∙ sym (map-append shown (take i subs) (row.0 ∷ []))
    ∙ ap (λ (l : List Row). map shown l) (sym (take_next subs i row.0 row.1))

pub returns : goal.returns
returns c =
    let u = planned c.args.tables.now.tables c.args.plan.now in
    let subs = sub_tasks c.args.task.0 u.rows in
    let long : length c.args.ids.now ≡ length subs = ap (λ (l : List TaskId). length l) c.requires.ids ∙ length-map subs (λ (r : Row). r.task) in
    let over = c.loop-id-test.false in
    c.loop-id.invariant ∙ ap (λ (l : List Row). map shown l) (take_all c.loop-id.id-index subs (omega arith))

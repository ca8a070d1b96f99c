use Rattle.std.proofs.Common.{◌≡◌, ℕ, ◌+◌, suc, List, [], ◌∷◌, ◌++◌, length, map, max, take, Some, ap, sym, ◌∙◌, arith}
use Rattle.std.proofs.lemmas.List.{length-map, map-append}
use Rattle.std.proofs.lemmas.Option.{none-some}
use Rattle.std.specs.Prelude.{slice_get}
use Rattle.ht_base.specs.declared.task_id.TaskId.{TaskId}
use Rattle.ht_tree.specs.declared.row.Row.{Row}
use Rattle.ht_tree.specs.Families.{sub_tasks}
use Rattle.ht_tree.specs.Plans.{planned}
use Rattle.ht_tree.specs.Rows.{row_at}
use Rattle.ht_tree.proofs.Rows.{some_at}
use Rattle.ht_tree.proofs.FewSubs.{all_found}
use Rattle.ht_tree.proofs.KnownSubs.{keep_on, known_subs}
use Rattle.ht_tree.proofs.SubTasks.{no_more, one_more}
use Rattle.ht_tree.proofs.family.sub_tasks.Goals as goal
use Rattle.ht_tree.proofs.family.sub_tasks.Goals.{then-is_sub_of+in_ok-push, else-is_sub_of}

abbrev ids : List Row → List TaskId
ids rows = map (λ r. r.task) rows

pub loop-before-init : goal.loop-before-init
loop-before-init c =
    let t = c.args.tables.now.tables in
    let u = planned t c.args.plan.now in
    let task = c.args.task.0 in
    let start : c.max-before.result ≡ max (length t.rows) task = c.max-before.ensures ∙ ap (λ (n : ℕ). max n task) c.rows.ensures.value in
    c.in_ok-found.ensures
    ∙ known_subs t u c.rows.ensures.sound c.requires.plan.sound (keep_on t c.args.plan.now c.requires.plan.fits) task
    ∙ ap (λ (n : ℕ). ids (sub_tasks task (take n u.rows))) (sym start)

pub returns-then-len-most : goal.returns-then-len-most
returns-then-len-most c =
    let rows = (planned c.args.tables.now.tables c.args.plan.now).rows in
    let task = c.args.task.0 in
    let found = c.loop-before.invariant in
    let count : length c.loop-before.found.items ≡ length (sub_tasks task (take c.loop-before.before rows)) = ap (λ (l : List TaskId). length l) found ∙ length-map (sub_tasks task (take c.loop-before.before rows)) (λ r. r.task) in
    let most = c.most_subs-most.ensures in
    let reached = c.if-len-most.true in
    found ∙ ap ids (all_found task c.loop-before.before rows (omega arith))

pub unreachable-requires : goal.unreachable-requires
unreachable-requires c =
    let rows = (planned c.args.tables.now.tables c.args.plan.now).rows in
    let i = c.loop-before.before in
    let count = c.rows-before-end.ensures in
    let more = c.loop-before-test.true in
    let row = some_at rows i (omega arith) in
    let next : i + 1 ≡ suc i = omega arith in
    none-some row.0 (c.in_default.ensures.value ∙ ap (λ (k : ℕ). row_at k rows) next ∙ row.1)

pub loop-before-preserved : goal.loop-before-preserved
loop-before-preserved c =
    let rows = (planned c.args.tables.now.tables c.args.plan.now).rows in
    let task = c.args.task.0 in
    let i = c.loop-before.before in
    let row = c.in-Some.row.now in
    let next : suc i ≡ i + 1 = omega arith in
    let there : slice_get rows i ≡ Some row = ap (λ (k : ℕ). row_at k rows) next ∙ sym c.in-Some.ensures.value in
    elim c.if-is_sub_of.branch [
      | then-is_sub_of+in_ok-push w ↦
          ap (λ v. v.items) w.found-is
          ∙ w.in_ok-push.ensures.items
          ∙ ap (λ (l : List TaskId). l ++ row.task ∷ []) c.loop-before.invariant
          ∙ sym (map-append (λ (r : Row). r.task) (sub_tasks task (take i rows)) (row ∷ []))
          ∙ ap ids (sym (one_more task rows i row there (sym w.if-is_sub_of.ensures)))
      | else-is_sub_of w ↦ ap (λ v. v.items) w.found-is ∙ c.loop-before.invariant ∙ ap ids (sym (no_more task rows i row there (sym w.if-is_sub_of.ensures)))
    ]

use Rattle.std.proofs.Common.{◌≡◌, true, List, take, get_or, ap, subst, sym, ◌∙◌, arith}
use Rattle.std.proofs.lemmas.List.{take_all, take_more}
use Rattle.ht_base.specs.declared.task_id.TaskId.{TaskId}
use Rattle.ht_compose.proofs.InTrees.{AddsSome, adds_all, adds_more, adds_none, has_at, sub_behind, sub_there}
use Rattle.ht_compose.proofs.trees.+add_tree.Goals as goal
use Rattle.ht_index.specs.Indexes.{has}
use Rattle.ht_tree.specs.ListedBy.{sub_ids}
use Rattle.ht_tree.specs.Plans.{planned}

pub loop-sub-init : goal.loop-sub-init
loop-sub-init t c = adds_none (planned c.args.tables.now.tables c.args.plan.now) c.requires.plan.sound c.args.task c.args.tasks.now.items c.put_task.new.tasks.items c.in_ok-put_task.ensures.put c.in_ok-put_task.ensures.ascends

pub add_tree-requires : goal.add_tree-requires
add_tree-requires t c =
    let u = planned c.args.tables.now.tables c.args.plan.now in
    let subs = c.deref-sub-items.result.now in
    let sub = get_or subs c.loop-sub.sub-index (record { 0 = 0 }) in
    let are : subs ≡ sub_ids c.args.task.0 u.rows = c.deref-sub-items.ensures.value ∙ c.in_ok-subs.ensures in
    let known : has sub.0 (sub_ids c.args.task.0 u.rows) ≡ true = ap (has sub.0) (sym are) ∙ has_at subs c.loop-sub.sub-index (record { 0 = 0 }) c.loop-sub-test.true in
    let behind = sub_behind u c.requires.plan.sound c.args.task.0 sub.0 known in
    let low = behind.0 in
    let high = behind.1 in
    (omega arith, (c.requires.plan, (sub_there u c.requires.plan.sound c.args.task.0 sub.0 known, c.loop-sub.invariant.ascends)))

pub loop-sub-preserved : goal.loop-sub-preserved
loop-sub-preserved t c =
    let u = planned c.args.tables.now.tables c.args.plan.now in
    let subs = c.deref-sub-items.result.now in
    let i = c.loop-sub.sub-index in
    let sub = get_or subs i (record { 0 = 0 }) in
    let A : List TaskId → Type 0 = λ l. AddsSome u.rows c.args.task.0 c.args.tasks.now.items c.add_tree.new.tasks.items l in
    subst A (sym (take_more subs i (record { 0 = 0 }) c.loop-sub-test.true)) (adds_more u c.requires.plan.sound c.args.task.0 c.args.tasks.now.items c.loop-sub.tasks.items c.add_tree.new.tasks.items (take i subs) sub c.loop-sub.invariant c.in_ok-add_tree.ensures)

pub returns : goal.returns
returns t c =
    let u = planned c.args.tables.now.tables c.args.plan.now in
    let subs = c.deref-sub-items.result.now in
    let are : subs ≡ sub_ids c.args.task.0 u.rows = c.deref-sub-items.ensures.value ∙ c.in_ok-subs.ensures in
    let over = c.loop-sub-test.false in
    let all : take c.loop-sub.sub-index subs ≡ sub_ids c.args.task.0 u.rows = take_all c.loop-sub.sub-index subs (omega arith) ∙ are in
    let A : List TaskId → Type 0 = λ l. AddsSome u.rows c.args.task.0 c.args.tasks.now.items c.loop-sub.tasks.items l in
    adds_all u c.requires.plan.sound c.args.task.0 c.args.tasks.now.items c.loop-sub.tasks.items c.requires.there (subst A all c.loop-sub.invariant)

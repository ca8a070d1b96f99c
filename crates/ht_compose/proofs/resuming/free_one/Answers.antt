use Rattle.std.proofs.Common.{◌≡◌, ◌∙◌, ap, subst, sym}
use Rattle.ht_compose.specs.declared.reaching.Change.TheVariants.{Free}
use Rattle.ht_compose.specs.Downward.{freed}
use Rattle.ht_compose.proofs.Acted.{IsTaken, MayReplace, again, again_next, goes_again}
use Rattle.ht_compose.proofs.Changed.{changed_standing}
use Rattle.ht_compose.proofs.FreedAlone.{with_freed}
use Rattle.ht_compose.proofs.OneRow.{one}
use Rattle.ht_compose.proofs.resuming.free_one.Goals as goal
use Rattle.ht_tree.specs.declared.row.Row.{Row}
use Rattle.ht_tree.specs.Plans.{Goes, planned}
use Rattle.ht_tree.specs.Soundness.{IsSound}
use Rattle.ht_tree.specs.Tables.{TablesOf, task_row, with_row}
use Rattle.ht_tree.proofs.PublicLaws.{lent_file, standing}

may : (u : TablesOf) (row after : Row) → after ≡ freed row → MayReplace u row after
may u row after is = let M : Row → Type 0 = λ r. MayReplace u row r in subst M (sym is) (with_freed u row)

pub put-requires-clause-next : goal.put-requires-clause-next
put-requires-clause-next c =
    let u = planned c.args.tables.now.tables c.args.plan.now in
    let row = c.in_ok-row.row in
    let is : IsTaken c.args.tables.now.tables c.args.plan.now c.take.new.self c.args.task.0 row = record { sound = c.requires.plan.sound; there = c.in_ok-row.ensures.row; lends = c.in_ok-row.ensures.lends } in
    again_next is (may u row c.changed.result c.changed.ensures)

pub returns-clause-frees : goal.returns-clause-frees
returns-clause-frees c = λ found there.
    let t = c.args.tables.now.tables in
    let u = planned t c.args.plan.now in
    let row = c.in_ok-row.row in
    let is : IsTaken t c.args.plan.now c.take.new.self c.args.task.0 row = record { sound = c.requires.plan.sound; there = c.in_ok-row.ensures.row; lends = c.in_ok-row.ensures.lends } in
    let G : Row → Type 0 = λ r. Goes t c.args.plan.now c.put.new.self u (with_row u r) in
    subst G (c.changed.ensures ∙ ap freed (one (task_row u c.args.task.0) row found is.there there)) (goes_again is (may u row c.changed.result c.changed.ensures) c.put.new.self c.in_ok-put.ensures.goes)

pub returns-clause-sound : goal.returns-clause-sound
returns-clause-sound c =
    let t = c.args.tables.now.tables in
    let u = planned t c.args.plan.now in
    let row = c.in_ok-row.row in
    let is : IsTaken t c.args.plan.now c.take.new.self c.args.task.0 row = record { sound = c.requires.plan.sound; there = c.in_ok-row.ensures.row; lends = c.in_ok-row.ensures.lends } in
    let ok = may u row c.changed.result c.changed.ensures in
    let S : TablesOf → Type 0 = λ v. IsSound v in
    subst S (sym (goes_again is ok c.put.new.self c.in_ok-put.ensures.goes).to) ((again is ok).keeps c.requires.plan.sound)

pub put-requires-clause-file : goal.put-requires-clause-file
put-requires-clause-file c = lent_file c.args.tables.now.tables c.args.plan.now c.take.new.self c.args.task.0 c.in_ok-row.row c.changed.result c.requires.plan.sound c.in_ok-row.ensures.lends c.in_ok-row.ensures.row (ap standing c.changed.ensures ∙ changed_standing Free c.in_ok-row.row)

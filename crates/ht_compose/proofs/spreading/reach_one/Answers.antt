use Rattle.std.proofs.Common.{◌≡◌, length, sym, subst, ◌∙◌}
use Rattle.ht_compose.specs.Reaching.{changed, reached}
use Rattle.ht_compose.proofs.Changed.{changed_fits}
use Rattle.ht_compose.proofs.OneRow.{changed_file, changed_next, left_alone, one, put_reached}
use Rattle.ht_compose.proofs.spreading.reach_one.Goals as goal
use Rattle.ht_tree.specs.declared.row.Row.{Row}
use Rattle.ht_tree.specs.Plans.{Goes, IsNext, KeepsFile, planned}
use Rattle.ht_tree.specs.Soundness.{Fits}
use Rattle.ht_tree.specs.Tables.{task_row, with_row}

pub returns-then-not-touches-clause-reaches : goal.returns-then-not-touches-clause-reaches
returns-then-not-touches-clause-reaches c =
    let t = c.args.tables.now.tables in
    left_alone t c.args.plan.now c.args.task.0 c.args.reach c.args.id.0 c.in-Some.row.now c.change_of-change.result c.requires.plan c.requires.there (sym c.in-Some.ensures.value) c.change_of-change.ensures.row (sym c.touches.ensures ∙ c.if-not-touches.true)

pub put-requires-clause-next : goal.put-requires-clause-next
put-requires-clause-next c =
    let t = c.args.tables.now.tables in
    let P : Row → Type 0 = λ r. IsNext (planned t c.take.new.self).rows r in
    subst P (sym c.changed.ensures) (changed_next t c.args.plan.now c.take.new.self c.args.task.0 c.args.reach c.args.id.0 c.in_ok-row.row c.change_of-change.result c.requires.there c.in_ok-row.ensures.row c.in_ok-row.ensures.lends)

pub put-requires-clause-file : goal.put-requires-clause-file
put-requires-clause-file c =
    let t = c.args.tables.now.tables in
    let P : Row → Type 0 = λ r. KeepsFile (planned t c.take.new.self).rows r in
    subst P (sym c.changed.ensures) (changed_file t c.args.plan.now c.take.new.self c.args.task.0 c.args.reach c.args.id.0 c.in_ok-row.row c.change_of-change.result c.requires.there c.in_ok-row.ensures.row c.in_ok-row.ensures.lends)

pub put-requires-clause-fits : goal.put-requires-clause-fits
put-requires-clause-fits c =
    let t = c.args.tables.now.tables in
    let P : Row → Type 0 = λ r. Fits t r in
    subst P (sym c.changed.ensures) (changed_fits t.models (length t.people.persons) c.change_of-change.result c.in_ok-row.row c.in_ok-row.ensures.fits)

pub returns-clause-reaches : goal.returns-clause-reaches
returns-clause-reaches c =
    let t = c.args.tables.now.tables in
    let u = planned t c.args.plan.now in
    let taken = c.take.new.self in
    let same : c.in-Some.row.now ≡ c.in_ok-row.row = one (task_row u c.args.id.0) c.in-Some.row.now c.in_ok-row.row (sym c.in-Some.ensures.value) c.in_ok-row.ensures.row in
    let C : Row → Type 0 = λ r. changed c.change_of-change.result r ≡ reached c.args.reach u.rows c.args.task.0 r in
    let G : Row → Type 0 = λ r. Goes t taken c.put.new.self (planned t taken) (with_row (planned t taken) r) in
    put_reached t c.args.plan.now taken c.args.task.0 c.args.reach c.args.id.0 c.in_ok-row.row c.change_of-change.result c.requires.there c.in_ok-row.ensures.row c.in_ok-row.ensures.lends c.put.new.self (subst C same c.change_of-change.ensures.row) (subst G c.changed.ensures c.in_ok-put.ensures.goes)

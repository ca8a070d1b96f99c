use Rattle.std.proofs.Common.{List, Some, sym, subst, take}
use Rattle.ht_tree.specs.declared.row.Row.{Row}
use Rattle.ht_tree.specs.Plans.{Goes, planned}
use Rattle.ht_tree.specs.Tables.{with_row}
use Rattle.ht_tree.proofs.Planning.{plan_with, put_goes}
use Rattle.ht_tree.proofs.plan.Plan.put.Goals as goal

pub returns-clause-goes : goal.returns-clause-goes
returns-clause-goes c =
    let t = c.args.tables.now.tables in
    let old = c.args.self.now in
    let row = c.args.row in
    let x = c.self.inside in
    let G : List Row → Type 0 = λ l. Goes t old (plan_with l x.mark (record { totals = Some c.totals_with-totals.result; slot = (x.noted).slot }) x.marked x.notices.items (take x.notice_mark x.notices.items)) (planned t old) (with_row (planned t old) row) in
    subst G (sym c.in_ok-put.ensures.ok) (put_goes t old x.puts x.mark x.noted x.marked x.notices.items (take x.notice_mark x.notices.items) c.self.view_is c.self.invariant.puts c.requires.plan row c.totals_with-totals.result c.requires.next c.requires.fits c.totals_with-totals.ensures c.requires.file)

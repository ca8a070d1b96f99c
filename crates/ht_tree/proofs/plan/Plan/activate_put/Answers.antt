use Rattle.std.proofs.Common.{List, Option, IfSome, sym, subst, take}
use Rattle.ht_tree.specs.declared.row.Row.{Row}
use Rattle.ht_tree.specs.Activation.{activated_to}
use Rattle.ht_tree.specs.Plans.{Goes, planned}
use Rattle.ht_tree.specs.Soundness.{Fits}
use Rattle.ht_tree.specs.Tables.{with_row}
use Rattle.ht_tree.proofs.InPlace.{activated_goes, row_is}
use Rattle.ht_tree.proofs.Places.{last_own}
use Rattle.ht_tree.proofs.Planning.{plan_with}
use Rattle.ht_tree.proofs.plan.Plan.activate_put.Goals as goal

pub returns-clause-goes : goal.returns-clause-goes
returns-clause-goes c = λ yes t fit.
    let x = c.self.inside in
    let old = c.args.self.now in
    let task = c.args.id.0 in
    let told = x.notices.items in
    let before = take x.notice_mark told in
    let set = c.activate.ensures.there yes in
    let after : Row → Row = λ r. activated_to c.args.state c.args.owner r in
    let u = planned t old in
    let there = row_is t old x.puts x.mark x.noted x.marked told before c.self.view_is c.self.invariant.puts fit c.args.state c.args.owner set.0 task set.1 in
    let N : List Row → Type 0 = λ l. Goes t old (plan_with l x.mark x.noted x.marked told before) u (with_row u (after set.0)) in
    let I : Option Row → Type 0 = λ o. IfSome o (λ row. Fits t (after row) → Goes t old (plan_with c.activate.new.self x.mark x.noted x.marked told before) u (with_row u (after row))) in
    subst I (sym there) (λ fits. subst N (sym set.2) (activated_goes t old x.puts x.mark x.noted x.marked told before c.self.view_is c.self.invariant.puts fit c.args.state c.args.owner set.0 task set.1 (last_own task x.puts set.0 set.1) fits))

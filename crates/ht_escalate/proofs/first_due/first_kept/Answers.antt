use Rattle.std.proofs.Common.{◌<◌, Option, Some, sym, subst, ◌∙◌}
use Rattle.ht_due.specs.declared.due.Due.{Due}
use Rattle.ht_escalate.proofs.Firsts.{IsWalked, fewer_left, left, walk_begins, walk_on}
use Rattle.ht_escalate.proofs.first_due.first_kept.Goals as goal

pub loop-next-init : goal.loop-next-init
loop-next-init c =
    let p = c.args.plan.now in
    let dues = c.due-queue.result.now.dues in
    subst (IsWalked p dues) (sym c.least-next.ensures.first) (walk_begins p dues c.least-next.ensures.ascend)

pub loop-next-smaller : goal.loop-next-smaller
loop-next-smaller c =
    let p = c.args.plan.now in
    let dues = c.due-queue.result.now.dues in
    let due : Due = c.in-Some.due in
    let walked : IsWalked p dues (Some due) = subst (IsWalked p dues) c.in-Some.is c.loop-next.invariant in
    let P : Option Due → Type 0 = λ o. left o dues < left (Some due) dues in
    let Q : Option Due → Type 0 = λ o. left c.after-next.result dues < left o dues in
    subst Q (sym c.in-Some.is) (subst P (sym c.after-next.ensures.next) (fewer_left dues due c.after-next.ensures.ascend walked.0))

pub loop-next-preserved : goal.loop-next-preserved
loop-next-preserved c =
    let p = c.args.plan.now in
    let dues = c.due-queue.result.now.dues in
    let due : Due = c.in-Some.due in
    let walked : IsWalked p dues (Some due) = subst (IsWalked p dues) c.in-Some.is c.loop-next.invariant in
    subst (IsWalked p dues) (sym c.after-next.ensures.next) (walk_on p dues due c.after-next.ensures.ascend walked (sym c.puts_row.ensures ∙ c.if-puts_row.true))

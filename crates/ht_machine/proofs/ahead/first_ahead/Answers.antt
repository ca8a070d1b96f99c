use Rattle.std.proofs.Common.{Option, subst, sym}
use Rattle.ht_due.specs.declared.due.Due.{Due}
use Rattle.ht_machine.specs.Ahead.{IsFirstAhead, in_list}
use Rattle.ht_machine.proofs.Firsts.{by_least, by_next}
use Rattle.ht_machine.proofs.ahead.first_ahead.Goals as goal

pub returns-in-None : goal.returns-in-None
returns-in-None c =
    let P : Option Due → Type 0 = λ p. IsFirstAhead (in_list c.args.dues.now.dues) p c.least.result in
    subst P (sym c.in-None.is) (by_least c.args.dues.now.dues c.least.result c.least.ensures.ascend c.least.ensures.first)

pub returns-in-Some : goal.returns-in-Some
returns-in-Some c =
    let P : Option Due → Type 0 = λ p. IsFirstAhead (in_list c.args.dues.now.dues) p c.after.result in
    subst P (sym c.in-Some.is) (by_next c.args.dues.now.dues c.in-Some.due c.after.result c.after.ensures.ascend c.after.ensures.next)

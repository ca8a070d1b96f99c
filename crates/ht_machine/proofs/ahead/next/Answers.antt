use Rattle.std.proofs.Common.{Option, subst, sym}
use Rattle.ht_due.specs.declared.due.Due.{Due}
use Rattle.ht_machine.specs.Ahead.{IsFirstAhead, in_either}
use Rattle.ht_machine.proofs.Firsts.{by_lesser}
use Rattle.ht_machine.proofs.ahead.next.Goals as goal

pub returns : goal.returns
returns c =
    let kept = c.args.kept.now.dues in
    let news = c.args.news.now.dues in
    let P : Option Due → Type 0 = λ r. IsFirstAhead (in_either kept news) c.args.passed r in
    subst P (sym c.lesser.ensures) (by_lesser kept news c.args.passed c.first_ahead.result c.first_ahead-2.result c.first_ahead.ensures c.first_ahead-2.ensures)

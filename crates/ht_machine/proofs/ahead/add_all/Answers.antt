use Rattle.std.proofs.Common.{◌||◌, [], List, ap, subst, sym, ◌∙◌}
use Rattle.ht_due.specs.declared.due.Due.{Due}
use Rattle.ht_due.specs.Dues.{Ascends, has}
use Rattle.ht_due.proofs.PublicLaws.{ascends_merged, has_merged}
use Rattle.ht_machine.proofs.ahead.add_all.Goals as goal

pub returns-clause-ascend : goal.returns-clause-ascend
returns-clause-ascend c =
    let old = c.reserve.new.self.dues in
    subst Ascends (sym c.merge.ensures.dues) (ascends_merged old [] c.args.dues.now (subst Ascends (sym c.in_ok-reserve.ensures.dues) c.requires.before))

pub returns-clause-has : goal.returns-clause-has
returns-clause-has c = λ due.
    let old = c.reserve.new.self.dues in
    ap (λ (l : List Due). has due l) c.merge.ensures.dues
    ∙ has_merged due old [] c.args.dues.now (subst Ascends (sym c.in_ok-reserve.ensures.dues) c.requires.before)
    ∙ ap (λ (l : List Due). has due c.args.dues.now || has due l) c.in_ok-reserve.ensures.dues

use Rattle.std.proofs.Common.{◌≡◌, ◌∙◌, List, ap, fold, subst, sym}
use Rattle.std.proofs.lemmas.Slice.Eq.{slice_eq-Decides}
use Rattle.ht_due.specs.declared.due.Due.{Due}
use Rattle.ht_due.specs.Dues.{AreNew, merged, put_due}
use Rattle.ht_tree.proofs.OneByOne.{again, both_stay, but_for, new_still, same_due}
use Rattle.ht_tree.proofs.exchanging.exchange.Goals as goal

pub put_in-requires-clause-absent : goal.put_in-requires-clause-absent
put_in-requires-clause-absent c =
    let P : List Due → Type 0 = λ dues. AreNew c.args.news.now c.args.gone.now dues in
    subst P (sym c.take_out.ensures.dues) (new_still c.args.queue.now.dues (but_for c.args.news.now c.args.gone.now) c.args.gone.now c.args.news.now c.requires.ascend c.requires.absent)

pub returns-then-eq : goal.returns-then-eq
returns-then-eq c =
    let same : c.args.gone.now ≡ c.args.news.now = (slice_eq-Decides same_due c.args.gone.now c.args.news.now c.eq.result c.eq.ensures).0 c.if-eq.true in
    again c.args.queue.now.dues c.args.gone.now c.requires.ascend c.requires.there ∙ ap (λ (news : List Due). merged c.args.queue.now.dues c.args.gone.now news) same

pub returns-else-gone-news-gt-FEW : goal.returns-else-gone-news-gt-FEW
returns-else-gone-news-gt-FEW c =
    c.put_in.ensures
    ∙ ap (λ (dues : List Due). fold put_due dues (but_for c.args.gone.now c.args.news.now)) c.take_out.ensures.dues
    ∙ both_stay c.args.queue.now.dues c.args.gone.now c.args.news.now c.requires.ascend c.requires.there

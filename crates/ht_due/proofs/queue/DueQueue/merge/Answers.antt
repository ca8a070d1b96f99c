use Rattle.std.proofs.Common.{List, subst, sym}
use Rattle.ht_due.specs.declared.due.Due.{Due}
use Rattle.ht_due.specs.Dues.{AreAbsent}
use Rattle.ht_due.proofs.Members.{absent_left}
use Rattle.ht_due.proofs.queue.DueQueue.merge.Goals as goal

pub put_all-requires-clause-absent : goal.put_all-requires-clause-absent
put_all-requires-clause-absent c =
    let Q : List Due → Type 0 = λ l. AreAbsent c.args.news.now l in
    subst Q (sym c.take_all.ensures.dues) (absent_left (c.args.self.now).dues c.args.gone.now c.args.news.now c.ascends.ensures c.requires.absent)

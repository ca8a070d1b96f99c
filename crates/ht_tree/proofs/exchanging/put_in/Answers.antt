use Rattle.std.proofs.Common.{◌∙◌, ap, arith, sym}
use Rattle.ht_due.specs.declared.due.Due.{Due}
use Rattle.ht_due.specs.Queues.{QueueOf}
use Rattle.ht_tree.proofs.OneByOne.{came, stayed}
use Rattle.ht_tree.proofs.exchanging.put_in.Goals as goal
use Rattle.ht_tree.proofs.exchanging.put_in.Goals.{then-not-is_among, else-not-is_among}

abbrev no_due : Due
no_due = record { at = record { 0 = 0 }; task = record { 0 = 0 }; kind = 0; place = 0 }

pub loop-due-preserved : goal.loop-due-preserved
loop-due-preserved c = elim c.if-not-is_among.branch [
  | then-not-is_among w ↦
      let old = c.loop-due.invariant in
      let is = ap (λ (q : QueueOf). q.dues) w.queue-is ∙ w.insert.ensures.dues in
      let next = came c.args.news.now c.args.gone.now c.loop-due.due-index no_due c.loop-due.queue.dues c.loop-due-test.true old.ascend old.absent c.if-not-is_among.queue.dues (sym c.is_among.ensures ∙ w.if-not-is_among.true) is in
      record {
        spare = let same = ap (λ (q : QueueOf). q.spare) w.queue-is in let less = w.insert.ensures.spare in let before = old.spare in omega arith;
        ascend = next.ascend;
        absent = next.absent;
        dues = next.dues ∙ old.dues;
      }
  | else-not-is_among w ↦
      let old = c.loop-due.invariant in
      let next = stayed c.args.news.now c.args.gone.now c.loop-due.due-index no_due c.loop-due.queue.dues c.loop-due-test.true old.ascend old.absent c.if-not-is_among.queue.dues (sym c.is_among.ensures ∙ w.if-not-is_among.false) (ap (λ (q : QueueOf). q.dues) w.queue-is) in
      record {
        spare = let same = ap (λ (q : QueueOf). q.spare) w.queue-is in let before = old.spare in omega arith;
        ascend = next.ascend;
        absent = next.absent;
        dues = next.dues ∙ old.dues;
      }
]

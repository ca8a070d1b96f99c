use Rattle.std.proofs.Common.{◌≡◌, ◌+◌, ◌≤◌, drop, fold, length}
use Rattle.ht_due.specs.Dues.{AreNew, Ascends, put_due}
use Rattle.ht_tree.proofs.OneByOne.{but_for}
use Rattle.ht_tree.proofs.exchanging.put_in.Given as goal

abbrev pub invariant-loop-due : goal.invariant-loop-due
invariant-loop-due l = record {
  spare : length l.news ≤ (l.queue).spare + l.due-index;
  ascend : Ascends (drop l.due-index l.news);
  absent : AreNew (drop l.due-index l.news) l.gone (l.queue).dues;
  dues : fold put_due (l.queue).dues (but_for l.gone (drop l.due-index l.news)) ≡ fold put_due ((l.fn).queue).dues (but_for l.gone l.news);
}

use Rattle.std.proofs.Common.{◌≡◌, ◌≤◌, drop, fold}
use Rattle.ht_due.specs.Dues.{without}
use Rattle.ht_tree.proofs.OneByOne.{but_for}
use Rattle.ht_tree.proofs.exchanging.take_out.Given as goal

abbrev pub invariant-loop-due : goal.invariant-loop-due
invariant-loop-due l = record {
  spare : ((l.fn).queue).spare ≤ (l.queue).spare;
  dues : fold without (l.queue).dues (but_for l.news (drop l.due-index l.gone)) ≡ fold without ((l.fn).queue).dues (but_for l.news l.gone);
}

use Rattle.std.proofs.Common.{◌≡◌, ◌+◌, fold, take}
use Rattle.ht_due.specs.Dues.{put_due}
use Rattle.ht_due.proofs.merging.put_all.Given as goal

abbrev pub invariant-loop-due : goal.invariant-loop-due
invariant-loop-due l = record {
  dues : (l.queue).dues ≡ fold put_due (l.fn.queue).dues (take l.due-index l.news);
  spare : (l.fn.queue).spare ≡ (l.queue).spare + l.due-index;
}

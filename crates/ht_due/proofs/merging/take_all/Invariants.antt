use Rattle.std.proofs.Common.{◌≡◌, ◌≤◌, fold, take}
use Rattle.ht_due.specs.Dues.{without}
use Rattle.ht_due.proofs.merging.take_all.Given as goal

abbrev pub invariant-loop-due : goal.invariant-loop-due
invariant-loop-due l = record {
  dues : (l.queue).dues ≡ fold without (l.fn.queue).dues (take l.due-index l.gone);
  spare : (l.fn.queue).spare ≤ (l.queue).spare;
}

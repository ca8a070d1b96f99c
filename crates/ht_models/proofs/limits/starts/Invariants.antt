use Rattle.std.proofs.Common.{◌≡◌, ◌≤◌, take}
use Rattle.std.specs.List.{count_by}
use Rattle.ht_models.specs.Limits.{is_start}
use Rattle.ht_models.proofs.limits.starts.Given as goal

abbrev pub invariant-loop-deadline : goal.invariant-loop-deadline
invariant-loop-deadline l = record {
  counted : l.count ≡ count_by (λ d. is_start d.kind) (take l.deadline-index l.deadlines);
  few : l.count ≤ l.deadline-index;
}

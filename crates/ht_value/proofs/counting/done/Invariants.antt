use Rattle.std.proofs.Common.{◌≡◌, ◌≤◌, take}
use Rattle.std.specs.Prelude.{count_by}
use Rattle.ht_base.specs.State.{is_completed}
use Rattle.ht_value.proofs.counting.done.Given as goal

abbrev pub invariant-loop-state : goal.invariant-loop-state
invariant-loop-state l = record {
  few : l.number ≤ l.state-index;
  so_far : l.number ≡ count_by (λ s. is_completed s.0) (take l.state-index l.state-items);
}

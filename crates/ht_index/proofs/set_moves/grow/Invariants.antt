use Rattle.std.proofs.Common.{◌≡◌, ℕ, ◌≤◌, length}
use Rattle.ht_index.specs.SetMoves.{reach_at, tasks_at}
use Rattle.ht_index.proofs.set_moves.grow.Given as goal

abbrev pub invariant-loop : goal.invariant-loop
invariant-loop l = record {
  count : l.counter ≤ length l.sets.items;
  sets : (k : ℕ) → tasks_at k l.sets.items ≡ tasks_at k l.fn.sets.items;
  reach : (k : ℕ) → reach_at k l.sets.items ≡ reach_at k l.fn.sets.items;
}

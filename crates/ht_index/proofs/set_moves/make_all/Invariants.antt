use Rattle.std.proofs.Common.{◌≡◌, ℕ, fold, take}
use Rattle.ht_index.specs.Indexes.{moved}
use Rattle.ht_index.specs.SetMoves.{reach_at, tasks_at}
use Rattle.ht_index.proofs.set_moves.make_all.Given as goal

abbrev pub invariant-loop-one : goal.invariant-loop-one
invariant-loop-one l = record {
  sets : (k : ℕ) → tasks_at k l.sets.items ≡ fold (moved k) (tasks_at k l.fn.sets.items) (take l.one-index l.moves);
  room : (k : ℕ) → reach_at k l.sets.items ≡ reach_at k l.fn.sets.items;
}

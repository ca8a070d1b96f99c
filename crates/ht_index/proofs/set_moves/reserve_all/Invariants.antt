use Rattle.std.proofs.Common.{◌≡◌, ℕ}
use Rattle.ht_index.specs.SetMoves.{tasks_at}
use Rattle.ht_index.proofs.Rooms.{AreRoomFor}
use Rattle.ht_index.proofs.set_moves.reserve_all.Given as goal

abbrev pub invariant-loop-one : goal.invariant-loop-one
invariant-loop-one l = record {
  sets : (k : ℕ) → tasks_at k l.sets.items ≡ tasks_at k l.fn.sets.items;
  room : AreRoomFor l.sets.items l.moves l.one-index;
}

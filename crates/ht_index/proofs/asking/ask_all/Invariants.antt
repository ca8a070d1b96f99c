use Rattle.std.proofs.Common.{◌≡◌, ℕ, ◌≤◌, take}
use Rattle.ht_index.specs.Kept.{coming, list_at, spare_at}
use Rattle.ht_index.proofs.asking.ask_all.Given as goal

abbrev pub invariant-loop-one : goal.invariant-loop-one
invariant-loop-one l = record {
  lists : (k : ℕ) → list_at k l.lists.items ≡ list_at k l.fn.lists.items;
  room : (k : ℕ) → coming k (take l.one-index l.moves) ≤ spare_at k l.lists.items;
}

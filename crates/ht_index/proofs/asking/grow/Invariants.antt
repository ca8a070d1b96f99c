use Rattle.std.proofs.Common.{◌≡◌, ℕ, ◌≤◌, length}
use Rattle.ht_index.specs.Kept.{list_at, spare_at}
use Rattle.ht_index.proofs.asking.grow.Given as goal

abbrev pub invariant-loop : goal.invariant-loop
invariant-loop l = record {
  count : l.counter ≤ length l.lists.items;
  lists : (k : ℕ) → list_at k l.lists.items ≡ list_at k l.fn.lists.items;
  spare : (k : ℕ) → spare_at k l.lists.items ≡ spare_at k l.fn.lists.items;
}

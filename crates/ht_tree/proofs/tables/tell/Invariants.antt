use Rattle.std.proofs.Common.{◌≡◌, ◌+◌, ◌++◌, ◌≤◌, length, vec_capacity, vec_len}
use Rattle.std.specs.Vec.Iter.{into_iter_items}
use Rattle.ht_tree.proofs.tables.tell.Given as goal

abbrev pub invariant-loop-notice : goal.invariant-loop-notice
invariant-loop-notice l = record {
  next : (goal.iterator-loop-notice).can_next l.notice-iterator;
  ends : (goal.iterator-loop-notice).is_finite l.notice-iterator;
  room : vec_len l.notices + length (into_iter_items l.notice-iterator) ≤ vec_capacity l.notices;
  items : l.notices.items ++ into_iter_items l.notice-iterator ≡ (l.fn).notices.items ++ (l.fn).more.items;
}

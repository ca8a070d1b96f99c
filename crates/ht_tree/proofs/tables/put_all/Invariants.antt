use Rattle.std.proofs.Common.{◌≡◌, fold, vec_capacity}
use Rattle.std.specs.Vec.Iter.{into_iter_items}
use Rattle.ht_tree.specs.Puts.{CanPut}
use Rattle.ht_tree.specs.Rows.{put_in}
use Rattle.ht_tree.proofs.tables.put_all.Given as goal

abbrev pub invariant-loop-row : goal.invariant-loop-row
invariant-loop-row l = record {
  next : (goal.iterator-loop-row).can_next l.row-iterator;
  ends : (goal.iterator-loop-row).is_finite l.row-iterator;
  puts : CanPut l.rows.items (into_iter_items l.row-iterator);
  rows : fold put_in l.rows.items (into_iter_items l.row-iterator) ≡ fold put_in l.fn.rows.items l.fn.puts.items;
  capacity : vec_capacity l.rows ≡ vec_capacity l.fn.rows;
}
